use Rattle.std.proofs.Common.{rules}
use Rattle.tracked.proofs.IndexLaws.{loadings}
use Rattle.tracked.proofs.index.load.Goals as goal

pub loop-i-init : goal.loop-i-init
loop-i-init c = search (rules, loadings)

pub enter-requires : goal.enter-requires
enter-requires c = search (rules, loadings)

pub enter-requires-in-loop-i : goal.enter-requires-in-loop-i
enter-requires-in-loop-i c = search (rules, loadings)

pub loop-i-preserved : goal.loop-i-preserved
loop-i-preserved c = search (rules, loadings)
