-- A statement calls a part with one less of depth, and a part calls statements with what it was given: twice the depth, and
-- one more in a part, falls at every call. A block's loop keeps that the search of what is left comes to the search of all.
use Rattle.std.proofs.Common.{◌+◌, ◌-◌, ◌*◌}
use Rattle.transactions.proofs.BodyLaws.{Searching}
use Rattle.transactions.proofs.bodies.+finding.Given as goal

abbrev pub decreases-find_body : goal.decreases-find_body
decreases-find_body l = 2 * l.depth

abbrev pub decreases-find_in_block : goal.decreases-find_in_block
decreases-find_in_block l = 2 * l.depth + 1

abbrev pub decreases-find_in_pair : goal.decreases-find_in_pair
decreases-find_in_pair l = 2 * l.depth + 1

abbrev pub decreases-find_in_transaction : goal.decreases-find_in_transaction
decreases-find_in_transaction l = 2 * l.depth + 1

abbrev pub invariant-find_in_block-loop : goal.invariant-find_in_block-loop
invariant-find_in_block-loop l = Searching l.program.now l.depth l.at l.k (l.statements - l.counter) l.passed.next l.passed.left
