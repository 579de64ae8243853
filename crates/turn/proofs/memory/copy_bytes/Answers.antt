use Rattle.std.proofs.Common.{rules}
use Rattle.turn.proofs.MemoryLaws.{copies}
use Rattle.turn.proofs.memory.copy_bytes.Goals as goal

pub loop-i-init : goal.loop-i-init
loop-i-init c = search (rules, copies)

pub loop-i-preserved : goal.loop-i-preserved
loop-i-preserved c = search (rules, copies)

pub returns : goal.returns
returns c = search (rules, copies)
