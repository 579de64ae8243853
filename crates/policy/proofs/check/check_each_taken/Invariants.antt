-- Roles that the row takes and that are no longer left were right; what is left is part of what it takes.
use Rattle.policy.proofs.TakesLaws.{Left, Passed}
use Rattle.policy.proofs.check.check_each_taken.Given as goal

abbrev pub invariant-loop-rest : goal.invariant-loop-rest
invariant-loop-rest l = Passed l.policy l.i l.rest × Left l.policy l.i l.rest

-- proposed from the loop's first test
abbrev pub decreases-loop-rest : goal.decreases-loop-rest
decreases-loop-rest l = l.rest
