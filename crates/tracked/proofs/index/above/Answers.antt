use Rattle.std.proofs.Common.{rules}
use Rattle.tracked.proofs.IndexLaws.{gatherings}
use Rattle.tracked.proofs.index.above.Goals as goal

pub loop-rest-preserved : goal.loop-rest-preserved
loop-rest-preserved c = search (rules, gatherings)
