use Rattle.std.proofs.Common.{rules}
use Rattle.tracked.proofs.AtomLaws.{fronts}
use Rattle.tracked.proofs.atoms.load_meanings.Goals as goal

pub returns : goal.returns
returns c = search (rules, fronts)
