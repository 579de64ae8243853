-- The answer for the queries that are left is the answer for all: one that is not the asked one may go.
use Rattle.std.proofs.Common.{◌+◌, ◌-◌, ◌*◌}
use Rattle.context.proofs.ListLaws.{Listing}
use Rattle.context.proofs.lists.is_listed.Given as goal

abbrev pub invariant-loop-i : goal.invariant-loop-i
invariant-loop-i l = Listing l.program l.n l.at l.other (l.n - l.i) (l.at + 2 * l.i)
