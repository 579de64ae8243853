-- The cycle of checks: each return is the verdict of the tree that stands at the position, by a law for that return; the
-- remaining depth falls, and where it stays each callee comes after its caller. A block: what is left of it decides.
use Rattle.std.proofs.Common.{◌+◌, ◌*◌}
use Rattle.context.specs.Context.{carried}
use Rattle.flow.proofs.CheckLaws.{Blocking}
use Rattle.flow.proofs.check.+checking.Given as goal

abbrev pub decreases-check_block : goal.decreases-check_block
decreases-check_block l = 7 * l.depth

abbrev pub decreases-check_branch : goal.decreases-check_branch
decreases-check_branch l = 7 * l.depth + 2

abbrev pub decreases-check_branches : goal.decreases-check_branches
decreases-check_branches l = 7 * l.depth + 3

abbrev pub decreases-check_held : goal.decreases-check_held
decreases-check_held l = 7 * l.depth + 4

abbrev pub decreases-check_if : goal.decreases-check_if
decreases-check_if l = 7 * l.depth

abbrev pub decreases-check_learnt : goal.decreases-check_learnt
decreases-check_learnt l = 7 * l.depth + 5

abbrev pub decreases-check_pair : goal.decreases-check_pair
decreases-check_pair l = 7 * l.depth + 3

abbrev pub decreases-check_part : goal.decreases-check_part
decreases-check_part l = 7 * l.depth + 2

abbrev pub decreases-check_query : goal.decreases-check_query
decreases-check_query l = 7 * l.depth

abbrev pub decreases-check_stmt : goal.decreases-check_stmt
decreases-check_stmt l = 7 * l.depth + 1

abbrev pub decreases-check_transaction : goal.decreases-check_transaction
decreases-check_transaction l = 7 * l.depth

abbrev pub decreases-check_while : goal.decreases-check_while
decreases-check_while l = 7 * l.depth

abbrev pub invariant-check_block-loop-left : goal.invariant-check_block-loop-left
invariant-check_block-loop-left l = Blocking l.files.policy.now l.files.program.now l.table (carried l.around l.context) l.depth l.at l.left l.next

abbrev pub decreases-check_block-loop-left : goal.decreases-check_block-loop-left
decreases-check_block-loop-left l = l.left
