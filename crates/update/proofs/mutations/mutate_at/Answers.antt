use Rattle.std.proofs.Common.{rules}
use Rattle.update.proofs.MutationLaws.{at_laws}
use Rattle.update.proofs.mutations.mutate_at.Goals as goal

pub returns-in_default : goal.returns-in_default
returns-in_default c = search (rules, at_laws)

pub mutate-requires : goal.mutate-requires
mutate-requires c = search (rules, at_laws)

pub returns : goal.returns
returns c = search (rules, at_laws)
