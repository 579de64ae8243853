use Rattle.std.proofs.Common.{rules}
use Rattle.order.proofs.BaseLaws.{loads}
use Rattle.order.proofs.base.Words.load.Goals as goal

pub loop-j-preserved : goal.loop-j-preserved
loop-j-preserved c = search (rules, loads)
