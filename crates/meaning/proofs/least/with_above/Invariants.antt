-- Whatever is left, the search stands; each turn it is done with one role more.
use Rattle.std.proofs.Common.{◌≡◌, ◌^◌, ◌-◌}
use Rattle.model.specs.Policy.{roles}
use Rattle.meaning.specs.Reach.{Found}
use Prim.Native.Nat.{◌/◌}
use lib.Bits.{bit_xor}
use Rattle.meaning.proofs.least.with_above.Given as goal

abbrev pub invariant-loop-left : goal.invariant-loop-left
invariant-loop-left l = Found l.policy l.i l.reached l.passed l.bits × (l.left ≡ bit_xor l.reached l.passed / 2 ^ l.i)

-- proposed from the loop's first test
abbrev pub decreases-loop-left : goal.decreases-loop-left
decreases-loop-left l = 2 ^ roles l.policy - l.passed
