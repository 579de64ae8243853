-- The loop's invariant: the holders found are those among the roles passed.
use Rattle.std.proofs.Common.{◌≡◌}
use Rattle.model.specs.Policy.{reading, trust}
use Rattle.order.specs.Base.{holders}
use Rattle.order.proofs.base.fixed_row.Given as goal

abbrev pub invariant-loop-j : goal.invariant-loop-j
invariant-loop-j l = (l.seen ≡ holders reading l.words l.low l.j) × (l.trusted ≡ holders trust l.words l.low l.j)
