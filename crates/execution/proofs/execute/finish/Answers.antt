use Rattle.std.proofs.Common.{rules}
use Rattle.execution.proofs.ExecuteLaws.{finishing}
use Rattle.execution.proofs.execute.finish.Goals as goal

pub returns-in-Ok : goal.returns-in-Ok
returns-in-Ok c = search (rules, finishing)

pub returns-in-Err : goal.returns-in-Err
returns-in-Err c = search (rules, finishing)
