-- Rounds that only add to a set of N numbers, and stand still once one of them adds nothing, stand still after N rounds: each before that added to the count.
use Prim.Native.Nat.{ℕ, zero, suc, ◌<◌, ◌≤◌}
use native.Mathlib.Omega.{arith}
use mathlib.Core.Path.{◌≡◌, refl, sym, ◌∙◌}
use mathlib.Core.Logic.{◌⊎◌, inl, inr, ⊎_elim}
use mathlib.Core.Bool.{Bool, true, false, cond, true≢false}
use Rattle.model.proofs.Below.{last_or}

-- how many numbers below n pass a test
count : ℕ → (ℕ → Bool) → ℕ
count zero f = 0
count (suc n) f = cond (f n) (suc (count n f)) (count n f)

count_le : (n : ℕ) (f : ℕ → Bool) → count n f ≤ n
unfolding count
count_le zero f = omega arith
count_le (suc n) f = go (f n) (count_le n f)
  where
    go : (b : Bool) → count n f ≤ n → cond b (suc (count n f)) (count n f) ≤ suc n
    go true h = omega arith
    go false h = omega arith

-- below n, g adds nothing to f
abbrev pub Still : ℕ → (ℕ → Bool) → (ℕ → Bool) → Type 0
Still n f g = (x : ℕ) → x < n → g x ≡ true → f x ≡ true

still_suc : (n : ℕ) (f g : ℕ → Bool) → (g n ≡ true → f n ≡ true) → Still n f g → Still (suc n) f g
still_suc n f g h s x l p = ⊎_elim (λ i. rw i (h (rw i at p))) (λ m. s x m p) (last_or n x l)

-- g adds nothing to f, or its count d is more than f's count c
abbrev StillOrMore : ℕ → (ℕ → Bool) → (ℕ → Bool) → ℕ → ℕ → Type 0
StillOrMore n f g c d = (Still n f g × (c ≤ d)) ⊎ (c < d)

still_or_more : (f g : ℕ → Bool) → ((x : ℕ) → f x ≡ true → g x ≡ true) → (n : ℕ) → StillOrMore n f g (count n f) (count n g)
unfolding count
still_or_more f g grows zero = inl ((λ x l. absurd (omega arith)), omega arith)
still_or_more f g grows (suc n) = go (f n) (g n) refl refl (still_or_more f g grows n)
  where
    go : (a b : Bool) → f n ≡ a → g n ≡ b → StillOrMore n f g (count n f) (count n g)
        → StillOrMore (suc n) f g (cond a (suc (count n f)) (count n f)) (cond b (suc (count n g)) (count n g))
    go true true e k (inl s) = inl (still_suc n f g (λ p. e) s.0, omega arith)
    go true true e k (inr m) = inr (omega arith)
    go true false e k d = absurd (true≢false (sym (grows n e) ∙ k))
    go false true e k (inl s) = inr (omega arith)
    go false true e k (inr m) = inr (omega arith)
    go false false e k (inl s) = inl (still_suc n f g (λ p. absurd (true≢false (sym p ∙ k))) s.0, s.1)
    go false false e k (inr m) = inr m

module _ (N : ℕ) (W : ℕ → ℕ → Bool)
    (grows : (n x : ℕ) → W n x ≡ true → W (suc n) x ≡ true)
    (stays : (n : ℕ) → Still N (W n) (W (suc n)) → Still N (W (suc n)) (W (suc (suc n)))) where
  still_or_counted : (n : ℕ) → Still N (W n) (W (suc n)) ⊎ (n < count N (W (suc n)))
  still_or_counted zero = ⊎_elim (λ s. inl s.0) (λ m. inr (omega arith)) (still_or_more (W 0) (W 1) (grows 0) N)
  still_or_counted (suc n) = ⊎_elim (λ s. inl (stays n s))
      (λ c. ⊎_elim (λ s. inl s.0) (λ m. inr (omega arith)) (still_or_more (W (suc n)) (W (suc (suc n))) (grows (suc n)) N))
      (still_or_counted n)

  pub enough : Still N (W N) (W (suc N))
  enough = ⊎_elim (λ s. s) (λ c. absurd (omega (arith, count_le N (W (suc N))))) (still_or_counted N)
