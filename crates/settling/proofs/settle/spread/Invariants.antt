-- The first i sets have the principal, or not, as they are to.
use Rattle.std.proofs.Common.{◌-◌, ◌≡◌, ◌≤◌, length}
use Rattle.model.specs.Limits.{role_limit}
use Prim.Native.Nat.{◌%◌}
use Rattle.settling.proofs.SettleLaws.{Spreading}
use Rattle.settling.proofs.settle.spread.Given as goal

abbrev pub invariant-loop-i : goal.invariant-loop-i
invariant-loop-i l = (l.i ≤ role_limit) × (l.i % 4 ≡ 0) × (length l.atoms ≡ length l.initial.atoms) × Spreading l.i l.among l.rest l.p l.initial.atoms l.atoms

-- proposed from the loop's first test
abbrev pub decreases-loop-i : goal.decreases-loop-i
decreases-loop-i l = l.count - l.i
