use Rattle.std.proofs.Common.{rules}
use Rattle.values.proofs.ValueLaws.{sides}
use Rattle.values.proofs.signs.outward.Goals as goal

-- src/signs.rt:51:1
pub returns-then-b-lt-LOWEST : goal.returns-then-b-lt-LOWEST
returns-then-b-lt-LOWEST c = search (rules, sides)

-- src/signs.rt:51:1
pub returns-else-b-lt-LOWEST : goal.returns-else-b-lt-LOWEST
returns-else-b-lt-LOWEST c = search (rules, sides)

-- src/signs.rt:51:1
pub returns-then-b-lt-LOWEST-2 : goal.returns-then-b-lt-LOWEST-2
returns-then-b-lt-LOWEST-2 c = search (rules, sides)

-- src/signs.rt:51:1
pub returns-else-b-lt-LOWEST-2 : goal.returns-else-b-lt-LOWEST-2
returns-else-b-lt-LOWEST-2 c = search (rules, sides)
