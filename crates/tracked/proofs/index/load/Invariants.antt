-- The words hold the first i rows the other way round.
use Rattle.std.proofs.Common.{◌≡◌}
use Rattle.model.specs.Policy.{roles}
use Rattle.tracked.specs.Index.{Loaded}
use Rattle.tracked.proofs.index.load.Given as goal

abbrev pub invariant-loop-i : goal.invariant-loop-i
invariant-loop-i l = (l.count ≡ roles l.policy) × Loaded l.policy l.i l.index
