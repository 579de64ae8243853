-- The loop's invariant: the rows passed have grown, all others are as they were.
use Rattle.program.specs.Codes.{model_atom}
use Rattle.order.specs.Learn.{StartGrew}
use Rattle.order.proofs.learn.grow_each.Given as goal

abbrev pub invariant-loop-row : goal.invariant-loop-row
invariant-loop-row l = StartGrew (model_atom l.atom) l.lower l.row-index l.initial.row-items l.row-items
