use Rattle.std.proofs.Common.{rules}
use Rattle.parser.proofs.FileLaws.{marks}
use Rattle.parser.proofs.file.read_mark.Goals as goal

pub returns : goal.returns
returns c = search (rules, marks)
