use Rattle.std.proofs.Common.{rules}
use Rattle.program.proofs.AtomLaws.{labels}
use Rattle.program.proofs.reader.Reader.read_label.Goals as goal

pub returns-else-j-self : goal.returns-else-j-self
returns-else-j-self c = search (rules, labels)
