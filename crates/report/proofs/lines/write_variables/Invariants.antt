-- The loop keeps that the lines of the variables so far are written.
use Rattle.std.proofs.Common.{◌≡◌, length}
use Rattle.model.specs.Text.{variable_lines}
use Rattle.report.specs.Writing.{written, write}
use Rattle.report.proofs.lines.write_variables.Given as goal

abbrev pub invariant-loop-x : goal.invariant-loop-x
invariant-loop-x l = (length l.out ≡ length l.initial.out) × (written l.out l.next ≡ write l.initial.out l.at (variable_lines l.memory l.x))
