-- With the roles that are done, all that take them in are seen; what is seen must be.
use Rattle.std.proofs.Common.{◌≡◌, ◌-◌}
use Rattle.tracked.specs.Index.{current}
use Prim.Native.Nat.{◌^◌}
use Rattle.settling.proofs.SettleLaws.{Climbing}
use lib.Bits.{bit_xor}
use Rattle.settling.proofs.settle.climb.Given as goal

abbrev pub invariant-loop-left : goal.invariant-loop-left
invariant-loop-left l = (l.left ≡ bit_xor l.seen l.done) × Climbing (current l.index) l.start l.seen l.done

-- proposed from the loop's first test
abbrev pub decreases-loop-left : goal.decreases-loop-left
decreases-loop-left l = 2 ^ 64 - l.done
