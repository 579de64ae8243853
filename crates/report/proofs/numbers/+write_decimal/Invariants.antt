-- The tenth part of a number from ten on is smaller, so the number itself falls.
use Rattle.report.proofs.numbers.+write_decimal.Given as goal

abbrev pub decreases-write_decimal : goal.decreases-write_decimal
decreases-write_decimal l = l.n
