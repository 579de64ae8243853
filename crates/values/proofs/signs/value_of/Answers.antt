use Rattle.std.proofs.Common.{rules}
use Rattle.values.proofs.ValueLaws.{values}
use Rattle.values.proofs.signs.value_of.Goals as goal

-- src/signs.rt:29:1
pub returns-then-n-lt0 : goal.returns-then-n-lt0
returns-then-n-lt0 c = search (rules, values)

-- src/signs.rt:29:1
pub returns-else-n-lt0 : goal.returns-else-n-lt0
returns-else-n-lt0 c = search (rules, values)
