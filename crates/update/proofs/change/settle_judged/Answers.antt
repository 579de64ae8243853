use Rattle.std.proofs.Common.{rules}
use Rattle.update.proofs.ChangeLaws.{judgings}
use Rattle.update.proofs.change.settle_judged.Goals as goal

pub returns-then-some-eq0 : goal.returns-then-some-eq0
returns-then-some-eq0 c = search (rules, judgings)
