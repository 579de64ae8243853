-- The sets of the roles that are not left are put together.
use Rattle.shared.specs.Words.{United}
use Rattle.tracked.specs.Index.{current}
use Rattle.tracked.proofs.index.union_of.Given as goal

abbrev pub invariant-loop-rest : goal.invariant-loop-rest
invariant-loop-rest l = United (current l.atoms) l.some l.rest 0 l.found

-- proposed from the loop's first test
abbrev pub decreases-loop-rest : goal.decreases-loop-rest
decreases-loop-rest l = l.rest
