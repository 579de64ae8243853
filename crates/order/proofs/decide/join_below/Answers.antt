use Rattle.std.proofs.Common.{rules}
use Rattle.order.proofs.DecideLaws.{decisions}
use Rattle.order.proofs.decide.join_below.Goals as goal

pub returns-then-not-subset : goal.returns-then-not-subset
returns-then-not-subset c = search (rules, decisions)

pub returns : goal.returns
returns c = search (rules, decisions)
