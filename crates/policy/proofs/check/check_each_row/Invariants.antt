-- The rows before row i gave 0, and their pairs of owner and name are those marked: so the first number that is not 0 is the answer.
use Rattle.std.proofs.Common.{◌≡◌}
use Rattle.model.specs.Number.{first_below}
use Rattle.model.specs.Policy.{row_number}
use Rattle.policy.specs.Pairs.{Seen}
use Rattle.policy.proofs.check.check_each_row.Given as goal

abbrev pub invariant-loop-i : goal.invariant-loop-i
invariant-loop-i l = (first_below (row_number l.policy) l.i ≡ 0) × Seen l.policy l.seen l.i
