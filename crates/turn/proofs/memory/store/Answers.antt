use Rattle.std.proofs.Common.{rules}
use Rattle.turn.proofs.MemoryLaws.{stores}
use Rattle.turn.proofs.memory.store.Goals as goal

pub loop-x-init : goal.loop-x-init
loop-x-init c = search (rules, stores)

pub loop-x-preserved : goal.loop-x-preserved
loop-x-preserved c = search (rules, stores)

pub returns : goal.returns
returns c = search (rules, stores)
