-- What is added to a set, and to it again.
use mathlib.Core.Path.{◌≡◌, sym, ◌∙◌}
use Prim.Native.Nat.{ℕ}
use lib.Bits.{bit_or, or_comm}
use Rattle.model.proofs.Sets.{or_assoc}

pub added_both : (a b w : ℕ) → bit_or b (bit_or a w) ≡ bit_or (bit_or a b) w
added_both a b w = sym (or_assoc b a w) ∙ rw (or_comm b a)
