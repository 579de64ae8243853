use Rattle.std.proofs.Common.{rules}
use Rattle.flow.proofs.CheckLaws.{if_checked, transaction_body, while_checked}
use Rattle.flow.proofs.check.+checking.Goals as goal

pub check_if-returns : goal.check_if-returns
check_if-returns t c = search (rules, if_checked)

pub check_while-returns : goal.check_while-returns
check_while-returns t c = search (rules, while_checked)

pub check_transaction-returns : goal.check_transaction-returns
check_transaction-returns t c = search (rules, transaction_body)
