use Rattle.std.proofs.Common.{rules}
use Rattle.update.proofs.MutationLaws.{mutatings}
use Rattle.update.proofs.mutations.mutate_all.Goals as goal

pub mutate_at-requires : goal.mutate_at-requires
mutate_at-requires c = search (rules, mutatings)

pub returns : goal.returns
returns c = search (rules, mutatings)
