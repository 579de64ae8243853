-- The loop's invariant: the rows of the roles passed are there, and the rows at hand are those of the last words.
use Rattle.order.specs.Base.{RowsOf, Filled}
use Rattle.order.proofs.base.write_roles.Given as goal

abbrev pub invariant-loop-j : goal.invariant-loop-j
invariant-loop-j l = RowsOf l.inclusions.words.now l.last l.rows × Filled l.inclusions.words.now l.j l.initial.table l.table
