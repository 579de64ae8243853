use Rattle.std.proofs.Common.{rules}
use Rattle.meaning.proofs.ReachLaws.{none_put}
use Rattle.meaning.proofs.least.all_meanings.Goals as goal

pub least_sets-requires : goal.least_sets-requires
least_sets-requires c = search (rules, none_put)
