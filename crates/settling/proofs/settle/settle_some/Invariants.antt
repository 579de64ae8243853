-- The sets are right for all but the principals that are left.
use Rattle.std.proofs.Common.{◌≡◌, length}
use Rattle.settling.specs.Settle.{Settling}
use Rattle.model.specs.Policy.{roles}
use Rattle.settling.proofs.settle.settle_some.Given as goal

abbrev pub invariant-loop-rest : goal.invariant-loop-rest
invariant-loop-rest l = (length l.atoms ≡ length l.initial.atoms) × (length l.index ≡ length l.initial.index) × (l.count ≡ roles l.policy) × Settling l.policy l.atoms l.index l.rest

-- proposed from the loop's first test
abbrev pub decreases-loop-rest : goal.decreases-loop-rest
decreases-loop-rest l = l.rest
