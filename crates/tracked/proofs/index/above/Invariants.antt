-- The words of the roles that are not left are put together.
use Rattle.tracked.specs.Index.{current}
use Rattle.tracked.proofs.IndexLaws.{Gathering}
use Rattle.tracked.proofs.index.above.Given as goal

abbrev pub invariant-loop-rest : goal.invariant-loop-rest
invariant-loop-rest l = Gathering (current l.index) l.start l.rest l.seen

-- proposed from the loop's first test
abbrev pub decreases-loop-rest : goal.decreases-loop-rest
decreases-loop-rest l = l.rest
