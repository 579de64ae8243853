-- The run's end is the model's, and the buffer has room for its whole text.
use Rattle.std.proofs.Common.{rules}
use Rattle.main.proofs.AnswerLaws.{text_counted, text_printed}
use Rattle.main.proofs.answer.Goals as goal

pub returns-clause-counts : goal.returns-clause-counts
returns-clause-counts c = text_counted _ _ _ _ _ _ _ _ _ _ (search rules) c.run-end.ensures c.write_report.ensures

pub returns-clause-whole : goal.returns-clause-whole
returns-clause-whole c = text_printed _ _ _ _ _ _ _ _ _ _ (search rules) c.run-end.ensures c.write_report.ensures (search rules)
