-- After each round the search is done with all that it had seen before.
use Rattle.std.proofs.Common.{◌-◌, ◌^◌}
use Rattle.model.specs.Policy.{roles}
use Rattle.meaning.specs.Reach.{Reached}
use Rattle.meaning.proofs.least.least_set.Given as goal

abbrev pub invariant-loop-done : goal.invariant-loop-done
invariant-loop-done l = Reached l.policy l.role l.seen l.done l.bits

-- proposed from the loop's first test
abbrev pub decreases-loop-done : goal.decreases-loop-done
decreases-loop-done l = 2 ^ roles l.policy - l.done
