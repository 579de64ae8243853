use Rattle.std.proofs.Common.{rules}
use Rattle.order.proofs.BaseLaws.{filled_more}
use Rattle.order.proofs.base.write_roles.Goals as goal

pub loop-j-preserved : goal.loop-j-preserved
loop-j-preserved c = search (rules, filled_more)
