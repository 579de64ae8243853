use Rattle.std.proofs.Common.{rules}
use Rattle.tracked.proofs.KeepLaws.{turnings}
use Rattle.tracked.proofs.index.turn.Goals as goal

pub returns-clause-turned : goal.returns-clause-turned
returns-clause-turned c = search (rules, turnings)
