-- The loop's invariant: the words of the roles passed are their viewers and trusters.
use Rattle.order.specs.Base.{Loaded}
use Rattle.order.proofs.base.Words.load.Given as goal

abbrev pub invariant-loop-j : goal.invariant-loop-j
invariant-loop-j l = Loaded l.policy l.j l.self
