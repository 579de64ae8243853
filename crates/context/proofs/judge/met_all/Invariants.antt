-- A meet for what is left of the set is one for the whole: the lowest number leaves the set, and its row joins the meet.
use Rattle.shared.specs.Sides.{model_side}
use Rattle.context.proofs.JudgeLaws.{Meeting}
use Rattle.context.proofs.judge.met_all.Given as goal

abbrev pub invariant-loop-left : goal.invariant-loop-left
invariant-loop-left l = Meeting l.program l.table (model_side l.side) l.written l.set l.fn.meet l.left l.met

abbrev pub decreases-loop-left : goal.decreases-loop-left
decreases-loop-left l = l.left
