use Rattle.std.proofs.Common.{rules}
use Rattle.model.proofs.Demand3.{two_calls}
use Rattle.rx.proofs.two_runs.Goals as goal

pub returns : goal.returns
returns c = search (rules, two_calls)
