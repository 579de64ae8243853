-- A law for each return of numbers.rt.
use Prim.Native.Nat.{ℕ, suc, ◌+◌, ◌-◌, ◌/◌, ◌%◌, ◌^◌, ◌<◌, ◌≤◌}
use native.Mathlib.Omega.{arith}
use mathlib.Core.Path.{◌≡◌, refl, ap, ◌∙◌}
use mathlib.Core.Bool.{Bool, true, false, true≢false}
use mathlib.Core.List.{List, [], ◌∷◌}
use lib.Dec.{ltb}
use lib.IntN.{ℤ, pos, negsuc, nat_abs}
use lib.Signed.{lt_z}
use mir.Syntax.{w32}
use mir.Val.{sel, to_z, of_z}
use mir.Facts.{of_z-to_z}
use borrow.Author.Tests.{lt-leb, le-leb, ltb-true, ltb-false}
use Rattle.model.specs.Text.{decimal, signed_decimal}
use Rattle.model.proofs.Text.{decimal_one, decimal_more}
use Rattle.report.specs.Writing.{written, write}
use Rattle.report.proofs.WritingLaws.{put_then}

-- a value is negative from 2 ^ 31 on
module _ (a : ℕ) where
  upper_half_not : lt_z (to_z w32 a) (pos 0) ≡ false → a < 2 ^ 31
  upper_half_not h = go (ltb a (2 ^ 31)) refl h
    where
      go : (b : Bool) → ltb a (2 ^ 31) ≡ b → lt_z (sel b (pos a) (negsuc (2 ^ 32 - suc a))) (pos 0) ≡ false → a < 2 ^ 31
      go true e h = ltb-true a (2 ^ 31) e
      go false e h = absurd (true≢false h)

  upper_half : a < 2 ^ 32 → lt_z (to_z w32 a) (pos 0) ≡ true → (2 ^ 31 ≤ a) × (nat_abs (to_z w32 a) ≡ 2 ^ 32 - a)
  upper_half l h = go (ltb a (2 ^ 31)) refl h
    where
      go : (b : Bool) → ltb a (2 ^ 31) ≡ b → lt_z (sel b (pos a) (negsuc (2 ^ 32 - suc a))) (pos 0) ≡ true → (2 ^ 31 ≤ a) × (nat_abs (sel b (pos a) (negsuc (2 ^ 32 - suc a))) ≡ 2 ^ 32 - a)
      go true e h = absurd (omega (arith, ltb-true a 0 h))
      go false e h = (ltb-false a (2 ^ 31) e, omega arith)

module _ (out : List ℕ) (at : ℕ) where
  pub one_digit : (n d : ℕ) (o : List ℕ) (r : ℕ) → n < 10 → d ≡ 0x30 + n → written o r ≡ write out at (d ∷ []) → written o r ≡ write out at (decimal n)
  one_digit n d o r l e h = rw (decimal_one n l, ← e) h

  pub more_digits : (n d : ℕ) (o₁ o₂ : List ℕ) (r₁ r₂ : ℕ) → 10 ≤ n → written o₁ r₁ ≡ write out at (decimal (n / 10)) → d ≡ 0x30 + n % 10
      → written o₂ r₂ ≡ write o₁ r₁ (d ∷ []) → written o₂ r₂ ≡ write out at (decimal n)
  more_digits n d o₁ o₂ r₁ r₂ l h e g = rw (decimal_more n l, ← e) (put_then out at (decimal (n / 10)) (d ∷ []) o₁ o₂ r₁ r₂ h g)

  -- a value read as a signed number z, and its distance n from zero
  module _ (a : ℕ) (z : ℤ) (few : a < 2 ^ 32) (e : z ≡ to_z w32 a) where
    read_back : to_z w32 (of_z w32 z) ≡ to_z w32 a
    read_back = ap (to_z w32) (ap (of_z w32) e ∙ of_z-to_z {w = w32} (record { fits = few }))

    pub not_negative : (n : ℕ) (o : List ℕ) (r : ℕ) → lt_z (to_z w32 (of_z w32 z)) (pos 0) ≡ false → n ≡ a → written o r ≡ write out at (decimal n) → written o r ≡ write out at (signed_decimal a)
    unfolding signed_decimal
    not_negative n o r l f h = rw (lt-leb (2 ^ 31) a (upper_half_not a (rw read_back at l)), ← f) h

    pub is_negative : (n m : ℕ) (o₁ o₂ : List ℕ) (r₁ r₂ : ℕ) → lt_z (to_z w32 (of_z w32 z)) (pos 0) ≡ true → written o₁ r₁ ≡ write out at (0x2d ∷ []) → m ≡ nat_abs (to_z w32 (of_z w32 z)) → n ≡ m
        → written o₂ r₂ ≡ write o₁ r₁ (decimal n) → written o₂ r₂ ≡ write out at (signed_decimal a)
    unfolding signed_decimal
    is_negative n m o₁ o₂ r₁ r₂ l h f g d =
        let u = upper_half a few (rw read_back at l) in
        let k : n ≡ 4294967296 - a = g ∙ f ∙ ap nat_abs read_back ∙ u.1 in
        rw (le-leb (2 ^ 31) a u.0) (put_then out at (0x2d ∷ []) (decimal (4294967296 - a)) o₁ o₂ r₁ r₂ h (rw k at d))

pub ruleset signs = (not_negative, is_negative)
