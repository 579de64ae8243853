-- The bits so far, with those of the queries that are left, are the bits of all.
use Rattle.std.proofs.Common.{◌+◌, ◌*◌}
use Rattle.update.proofs.ListedLaws.{Noting}
use Rattle.update.proofs.listed.held.Given as goal

abbrev pub invariant-loop-i : goal.invariant-loop-i
invariant-loop-i l = Noting l.program l.at l.count l.atoms l.bits (l.at + 2 * l.i) l.i
