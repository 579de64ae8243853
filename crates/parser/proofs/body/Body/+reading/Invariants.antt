-- A statement calls what it holds with one less of depth, and that calls branches, a block's statements and statements with what
-- it was given: four times the depth, one more for a block's statement, two for a branch and three for any other part, falls at
-- every call. A block's loop keeps that reading what is left comes to what reading all comes to, and that another reading may
-- begin where it stands.
use Rattle.std.proofs.Common.{◌≡◌, ◌+◌, ◌*◌, ◌<◌}
use Rattle.model.specs.Program.{read_many, read_stmt, block_at}
use Rattle.program.specs.Answer.{place_limit, end_of}
use Rattle.parser.proofs.body.Body.+reading.Given as goal

abbrev pub decreases-read_block : goal.decreases-read_block
decreases-read_block l = 4 * l.depth + 3

abbrev pub decreases-read_branch : goal.decreases-read_branch
decreases-read_branch l = 4 * l.depth + 2

abbrev pub decreases-read_if : goal.decreases-read_if
decreases-read_if l = 4 * l.depth + 3

abbrev pub decreases-read_part : goal.decreases-read_part
decreases-read_part l = 4 * l.depth + 1

abbrev pub decreases-read_query : goal.decreases-read_query
decreases-read_query l = 4 * l.depth + 3

abbrev pub decreases-read_stmt : goal.decreases-read_stmt
decreases-read_stmt l = 4 * l.depth

abbrev pub decreases-read_transaction : goal.decreases-read_transaction
decreases-read_transaction l = 4 * l.depth + 3

abbrev pub decreases-read_while : goal.decreases-read_while
decreases-read_while l = 4 * l.depth + 3

abbrev pub invariant-read_block-loop-left : goal.invariant-read_block-loop-left
invariant-read_block-loop-left l = (end_of (read_many (read_stmt l.self.reader.program.now l.self.reader.principals l.self.reader.roles l.self.variables l.depth) l.left l.next) ≡ end_of (block_at l.self.reader.program.now l.self.reader.principals l.self.reader.roles l.self.variables (read_stmt l.self.reader.program.now l.self.reader.principals l.self.reader.roles l.self.variables l.depth) l.at)) × (l.next < place_limit)

-- proposed from the loop's first test
abbrev pub decreases-read_block-loop-left : goal.decreases-read_block-loop-left
decreases-read_block-loop-left l = l.left
