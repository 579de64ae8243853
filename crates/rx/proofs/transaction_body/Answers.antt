use Rattle.std.proofs.Common.{rules}
use Rattle.rx.proofs.Laws.{answers}
use Rattle.rx.proofs.transaction_body.Goals as goal

pub returns-in_default : goal.returns-in_default
returns-in_default c = search (rules, answers)
