use Rattle.std.proofs.Common.{rules}
use Rattle.tracked.proofs.SiftLaws.{siftings}
use Rattle.tracked.proofs.index.sift.Goals as goal

pub returns : goal.returns
returns c = search (rules, siftings)
