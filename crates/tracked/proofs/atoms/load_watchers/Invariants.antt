-- The first j roles have their viewers and trusters in the words.
use Rattle.tracked.specs.Live.{Watched}
use Rattle.tracked.proofs.atoms.load_watchers.Given as goal

abbrev pub invariant-loop-j : goal.invariant-loop-j
invariant-loop-j l = Watched l.policy l.j l.atoms
