use Rattle.std.proofs.Common.{arith}
use Rattle.settling.proofs.SettleLaws.{spreading_more}
use Rattle.settling.proofs.settle.spread.Goals as goal

pub loop-i-preserved : goal.loop-i-preserved
loop-i-preserved c = (
  omega arith,
  omega arith,
  omega arith,
  spreading_more _ _ _ _ _ _ c.loop-i.invariant.3 _ _ _ _ _ _ _ _ (omega arith) c.contains.ensures c.place.ensures c.contains-in-loop-i.ensures c.place-in-loop-i.ensures c.contains-in-loop-i-2.ensures c.place-in-loop-i-2.ensures c.contains-in-loop-i-3.ensures c.place-in-loop-i-3.ensures,
)
