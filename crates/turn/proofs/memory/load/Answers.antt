use Rattle.std.proofs.Common.{rules}
use Rattle.turn.proofs.MemoryLaws.{loads}
use Rattle.turn.proofs.memory.load.Goals as goal

pub loop-x-init : goal.loop-x-init
loop-x-init c = search (rules, loads)

pub loop-x-preserved : goal.loop-x-preserved
loop-x-preserved c = search (rules, loads)

pub returns-clause-loaded : goal.returns-clause-loaded
returns-clause-loaded c = search (rules, loads)
