-- The loop keeps that the bytes so far are written.
use Rattle.std.proofs.Common.{◌≡◌, length}
use Rattle.report.specs.Writing.{written, write}
use lib.ListN.{take}
use Rattle.report.proofs.writing.put_all.Given as goal

abbrev pub invariant-loop-b : goal.invariant-loop-b
invariant-loop-b l = (length l.out ≡ length l.initial.out) × (written l.out l.next ≡ write l.initial.out l.at (take l.b-index l.text))
