-- The walk calls itself only with one less of depth, which is the measure; the second part starts where the first ends.
use Rattle.gathered.proofs.positions.+after_expr.Given as goal

-- proposed from what the function passes where it calls itself
abbrev pub decreases-after_expr : goal.decreases-after_expr
decreases-after_expr l = l.depth
