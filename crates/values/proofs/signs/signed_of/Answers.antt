use Rattle.std.proofs.Common.{rules}
use Rattle.values.proofs.ValueLaws.{signs}
use Rattle.values.proofs.signs.signed_of.Goals as goal

-- src/signs.rt:18:1
pub returns-then-v-lt-LOWEST : goal.returns-then-v-lt-LOWEST
returns-then-v-lt-LOWEST c = search (rules, signs)

-- src/signs.rt:18:1
pub returns-else-v-lt-LOWEST : goal.returns-else-v-lt-LOWEST
returns-else-v-lt-LOWEST c = search (rules, signs)
