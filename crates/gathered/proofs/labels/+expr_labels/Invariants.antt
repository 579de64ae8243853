-- The walk calls itself only with one less of depth, which is the measure; a law for each kind of expression puts the labels
-- of its parts together.
use Rattle.gathered.proofs.labels.+expr_labels.Given as goal

-- proposed from what the function passes where it calls itself
abbrev pub decreases-expr_labels : goal.decreases-expr_labels
decreases-expr_labels l = l.depth
