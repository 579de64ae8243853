-- Those of the set that are not left are compared.
use Rattle.tracked.proofs.SiftLaws.{Comparing}
use Rattle.tracked.proofs.index.changed.Given as goal

abbrev pub invariant-loop-rest : goal.invariant-loop-rest
invariant-loop-rest l = Comparing l.from l.set l.rest l.index l.found

-- proposed from the loop's first test
abbrev pub decreases-loop-rest : goal.decreases-loop-rest
decreases-loop-rest l = l.rest
