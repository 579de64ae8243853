-- A statement calls block and pair with one less of depth, and these call statements with what they were given: three times
-- the depth, one more in a block's statement and in a branch, two in block and pair, falls at every call. A block's loop keeps
-- that what is left adds to the words as they are what all adds.
use Rattle.std.proofs.Common.{◌+◌, ◌-◌, ◌*◌}
use Rattle.gathered.proofs.WriteLaws.{Gathering}
use Rattle.gathered.proofs.writes.+writing.Given as goal

abbrev pub decreases-block_writes : goal.decreases-block_writes
decreases-block_writes l = 3 * l.depth + 2

abbrev pub decreases-branch_writes : goal.decreases-branch_writes
decreases-branch_writes l = 3 * l.depth + 1

abbrev pub decreases-pair_writes : goal.decreases-pair_writes
decreases-pair_writes l = 3 * l.depth + 2

abbrev pub decreases-part_writes : goal.decreases-part_writes
decreases-part_writes l = 3 * l.depth + 1

abbrev pub decreases-stmt_writes : goal.decreases-stmt_writes
decreases-stmt_writes l = 3 * l.depth

abbrev pub invariant-block_writes-loop : goal.invariant-block_writes-loop
invariant-block_writes-loop l = Gathering l.program.now l.depth l.at l.initial.written (l.statements - l.counter) l.next l.written
