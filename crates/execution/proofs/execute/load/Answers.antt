use Rattle.std.proofs.Common.{rules}
use Rattle.execution.proofs.ExecuteLaws.{loading}
use Rattle.execution.proofs.execute.load.Goals as goal

pub track-requires : goal.track-requires
track-requires c = search (rules, loading)

pub load-requires : goal.load-requires
load-requires c = search (rules, loading)

pub returns : goal.returns
returns c = search (rules, loading)
