use Rattle.std.proofs.Common.{rules}
use Rattle.tracked.proofs.AtomLaws.{loads}
use Rattle.tracked.proofs.atoms.load_fixed.Goals as goal

pub returns : goal.returns
returns c = search (rules, loads)
