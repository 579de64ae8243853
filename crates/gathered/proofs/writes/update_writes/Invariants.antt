-- The loop keeps this: the roles gathered, with those of the mutations left to read, are the roles that the whole list mutates.
use Rattle.std.proofs.Common.{◌+◌, ◌-◌, ◌*◌, length}
use Rattle.gathered.proofs.WriteLaws.{Mutating}
use Rattle.gathered.proofs.writes.update_writes.Given as goal

abbrev pub invariant-loop-role : goal.invariant-loop-role
invariant-loop-role l = Mutating l.program l.at (length l.mutations - l.role-index) (l.at + 1 + 3 * l.role-index) l.mutated
