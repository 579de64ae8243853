use Rattle.std.proofs.Common.{rules}
use Rattle.update.proofs.ChangeLaws.{judges}
use Rattle.update.proofs.change.judge.Goals as goal

pub returns : goal.returns
returns c = search (rules, judges)
