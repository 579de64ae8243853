-- The searches stand, and the first i have their roles' meanings.
use Rattle.meaning.specs.Reach.{Searches}
use Rattle.meaning.proofs.ReachLaws.{Told}
use Rattle.meaning.proofs.least.look_on.Given as goal

abbrev pub invariant-loop-i : goal.invariant-loop-i
invariant-loop-i l = Searches l.policy 0 l.seen l.done l.sets × Told l.policy l.sets l.i
