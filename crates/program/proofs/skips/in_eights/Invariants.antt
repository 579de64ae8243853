-- The loop keeps that so many eights of skips stand in a row.
use Rattle.std.proofs.Common.{◌*◌}
use Rattle.program.specs.Skips.{Skips}
use Rattle.program.proofs.skips.in_eights.Given as goal

abbrev pub invariant-loop-eights : goal.invariant-loop-eights
invariant-loop-eights l = Skips l.program l.at (8 * l.eights)
