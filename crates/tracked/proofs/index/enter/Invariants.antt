-- The words of the set's numbers that are not left have i.
use Rattle.tracked.proofs.IndexLaws.{Entering}
use Rattle.tracked.proofs.index.enter.Given as goal

abbrev pub invariant-loop-rest : goal.invariant-loop-rest
invariant-loop-rest l = Entering l.from l.set l.rest l.i l.initial.index l.index

-- proposed from the loop's first test
abbrev pub decreases-loop-rest : goal.decreases-loop-rest
decreases-loop-rest l = l.rest
