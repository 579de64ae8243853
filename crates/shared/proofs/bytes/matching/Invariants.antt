-- The loop keeps this: the bytes before i are equal, so what is left to compare from i on decides how many match.
use Rattle.std.proofs.Common.{◌≡◌, ◌+◌}
use Rattle.shared.specs.Marks.{matching}
use lib.ListN.{drop}
use Rattle.shared.proofs.bytes.matching.Given as goal

abbrev pub invariant-loop-i : goal.invariant-loop-i
invariant-loop-i l = l.i + matching (drop l.i l.s) (drop l.i l.mark) ≡ matching l.s l.mark
