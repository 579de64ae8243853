use Rattle.std.proofs.Common.{rules}
use Rattle.tracked.proofs.IndexLaws.{notings}
use Rattle.tracked.proofs.index.note_above.Goals as goal

pub returns : goal.returns
returns c = search (rules, notings)
