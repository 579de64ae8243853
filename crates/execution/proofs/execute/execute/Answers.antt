use Rattle.std.proofs.Common.{rules}
use Rattle.execution.proofs.ExecuteLaws.{executing}
use Rattle.execution.proofs.execute.execute.Goals as goal

pub returns : goal.returns
returns c = search (rules, executing)
