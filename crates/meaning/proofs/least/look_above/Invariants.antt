-- The searches from role row on stand.
use Rattle.meaning.specs.Reach.{Searches}
use Rattle.meaning.proofs.least.look_above.Given as goal

abbrev pub invariant-loop-row : goal.invariant-loop-row
invariant-loop-row l = Searches l.policy l.row l.seen l.done l.sets
