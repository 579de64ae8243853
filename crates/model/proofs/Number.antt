-- A chosen number is 0 exactly when every check that it is chosen from gives 0.
use Prim.Native.Nat.{ℕ, zero, suc, ◌<◌}
use mathlib.Core.Path.{◌≡◌, refl, sym, ◌∙◌}
use mathlib.Core.Logic.{◌⊎◌, inl, inr, ⊎_elim}
use mathlib.Core.Bool.{Bool, true, false}
use native.Mathlib.Omega.{arith}
use lib.Dec.{eqb-suc-zero}
use borrow.Author.Tests.{ne_eqb}
use Rattle.model.specs.Number.{unless, first, first_below}
use Rattle.model.proofs.Below.{last_or}

pub unless_zero : (holds : Bool) (k later : ℕ) → unless holds (suc k) later ≡ 0 → (holds ≡ true) × (later ≡ 0)
unless_zero true k later h = (refl, h)
unless_zero false k later h = absurd (omega arith)

pub unless_or : (holds : Bool) (k : ℕ) → (unless holds k 0 ≡ 0) ⊎ (unless holds k 0 ≡ k)
unless_or true k = inl refl
unless_or false k = inr refl

pub first_zero : (a b : ℕ) → first a b ≡ 0 → (a ≡ 0) × (b ≡ 0)
first_zero zero b h = (refl, h)
first_zero (suc a) b h = absurd (let e : suc a ≡ 0 = rw eqb-suc-zero at h in omega arith)

pub zero_first : (a b : ℕ) → a ≡ 0 → b ≡ 0 → first a b ≡ 0
zero_first a b p q = rw p q

pub below_zero : (f : ℕ → ℕ) (n : ℕ) → first_below f n ≡ 0 → (i : ℕ) → i < n → f i ≡ 0
unfolding first_below
below_zero f zero h i l = absurd (omega arith)
below_zero f (suc n) h i l =
    let z = first_zero (first_below f n) (f n) h in
    ⊎_elim (λ e. rw e z.1) (λ k. below_zero f n z.0 i k) (last_or n i l)

pub zero_below : (f : ℕ → ℕ) (n : ℕ) → ((i : ℕ) → i < n → f i ≡ 0) → first_below f n ≡ 0
unfolding first_below
zero_below f zero h = refl
zero_below f (suc n) h = zero_first (first_below f n) (f n) (zero_below f n (λ i l. h i (omega arith))) (h n (omega arith))

-- among numbers that are 0 or k, the first that is not 0 is k, if there is one
module _ (f : ℕ → ℕ) (k : ℕ) (each : (j : ℕ) → (f j ≡ 0) ⊎ (f j ≡ k)) where
  each_below : (n : ℕ) → (first_below f n ≡ 0) ⊎ (first_below f n ≡ k)
  unfolding first_below
  each_below zero = inl refl
  each_below (suc n) = go (each_below n) (each n) (first_below f n) refl
    where
      go : (first_below f n ≡ 0) ⊎ (first_below f n ≡ k) → (f n ≡ 0) ⊎ (f n ≡ k) → (a : ℕ) → first_below f n ≡ a → (first a (f n) ≡ 0) ⊎ (first a (f n) ≡ k)
      go (inl x) y a e = let z : a ≡ 0 = sym e ∙ x in rw z y
      go (inr x) y zero e = y
      go (inr x) y (suc a) e = inr (simp eqb-suc-zero (sym e ∙ x))

  pub one_number : (n j : ℕ) → (k ≡ 0 → ⊥) → j < n → f j ≡ k → first_below f n ≡ k
  unfolding first_below
  one_number zero j z l e = absurd (omega arith)
  one_number (suc n) j z l e = ⊎_elim
      (λ i. go (each_below n) (rw i at e))
      (λ m. rw (one_number n j z m e) (simp (ne_eqb _ _ z)))
      (last_or n j l)
    where
      go : (first_below f n ≡ 0) ⊎ (first_below f n ≡ k) → f n ≡ k → first (first_below f n) (f n) ≡ k
      go (inl a) b = rw (a, b)
      go (inr a) b = rw a (simp (ne_eqb _ _ z))
