-- The answer for the mutations that are left is the answer for all: one that is allowed may go.
use Rattle.std.proofs.Common.{◌+◌, ◌-◌, ◌*◌}
use Rattle.context.proofs.ListLaws.{Allowing}
use Rattle.context.proofs.lists.all_allowed.Given as goal

abbrev pub invariant-loop-i : goal.invariant-loop-i
invariant-loop-i l = Allowing l.policy l.program l.n l.at (l.n - l.i) (l.at + 3 * l.i)
