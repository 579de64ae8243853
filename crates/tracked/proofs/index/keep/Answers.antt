use Rattle.std.proofs.Common.{rules}
use Rattle.tracked.proofs.KeepLaws.{keepings}
use Rattle.tracked.proofs.index.keep.Goals as goal

pub returns : goal.returns
returns c = search (rules, keepings)
