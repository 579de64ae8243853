-- One digit, or the digits of the tenth part and the last.
use Rattle.std.proofs.Common.{rules}
use Rattle.report.proofs.NumberLaws.{more_digits, one_digit}
use Rattle.report.proofs.numbers.+write_decimal.Goals as goal

pub returns-then-n-lt10 : goal.returns-then-n-lt10
returns-then-n-lt10 t c = search (rules, one_digit)

pub returns : goal.returns
returns t c = search (rules, more_digits)
