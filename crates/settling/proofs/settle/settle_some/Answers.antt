use Rattle.std.proofs.Common.{rules}
use Rattle.settling.proofs.SettleLaws.{settlings}
use Rattle.settling.proofs.settle.settle_some.Goals as goal

pub spread-requires : goal.spread-requires
spread-requires c = search (rules, settlings)

pub loop-rest-preserved : goal.loop-rest-preserved
loop-rest-preserved c = search (rules, settlings)

pub returns : goal.returns
returns c = search (rules, settlings)
