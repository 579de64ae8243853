-- Reading calls itself only with one less of depth, which is the measure; what the inner readings answer, the laws of the
-- model's reading put together.
use Rattle.parser.proofs.body.Body.+read_expr.Given as goal

-- proposed from what the function passes where it calls itself
abbrev pub decreases-read_expr : goal.decreases-read_expr
decreases-read_expr l = l.depth
