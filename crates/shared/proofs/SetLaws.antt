-- A law for each return of sets.rt: past bit 63 a word has no member, and every word is below 2 ^ 64.
use mathlib.Core.Path.{◌≡◌, refl, sym, ◌∙◌}
use Prim.Native.Nat.{ℕ, zero, suc, ◌-◌, ◌*◌, ◌/◌, ◌%◌, ◌^◌, ◌<◌, ◌≤◌}
use mathlib.Core.Bool.{true, false, true≢false}
use native.Mathlib.Omega.{arith}
use native.Mathlib.Nat.{one-mul, lt_of_lt_of_le, div-eq_of_lt, div-eq_of_lt-le, div-one, pow-suc}
use native.Mathlib.Decide.{dec_lt}
use lib.Dec.{ltb}
use lib.Pow.{shl_exact, pow_mono, pow_pos}
use lib.Bits.{bit_and, and_step, and_self}
use lib.Count.{count_trailing_zeros, count_leading_zeros, leading_top, under}
use borrow.Author.Tests.{lt-ltb, le-ltb, eq-eqb}
use Rattle.model.specs.Sets.{has, without}
use Rattle.model.proofs.Sets.{half_has}
use Rattle.shared.specs.Words.{single}

-- one shifted within 64 bits is the power
pub shifted : (n : ℕ) → n < 64 → 1 * 2 ^ n % 2 ^ 64 ≡ 2 ^ n
shifted n h = shl_exact 1 n 64 (omega arith) (omega arith) ∙ one-mul (2 ^ n)

-- the set of one number
pub single_is : (i : ℕ) → i < 64 → single i ≡ 2 ^ i
unfolding single
single_is i h = simp (lt-ltb _ _ h)

pub single_low : (i : ℕ) → i < 64 → 1 * 2 ^ i % 2 ^ 64 ≡ single i
single_low i h = shifted i h ∙ sym (single_is i h)

pub single_high : (i : ℕ) → 64 ≤ i → 0 ≡ single i
unfolding single
single_high i h = simp (le-ltb _ _ h)

below_power : (a n : ℕ) → a < 2 ^ 64 → 64 ≤ n → a < 2 ^ n
below_power a n h g = lt_of_lt_of_le h (pow_mono g)

pub contains_past : (a i : ℕ) → a < 2 ^ 64 → 64 ≤ i → false ≡ has a i
contains_past a i h g = rw (div-eq_of_lt (below_power a i h g))

pub below_past : (a n : ℕ) → a < 2 ^ 64 → 64 ≤ n → true ≡ ltb a (2 ^ n)
below_past a n h g = sym (lt-ltb a (2 ^ n) (below_power a n h g))

-- the lowest bit that is set: halving a number whose lowest bit is not set leaves one bit fewer to pass
low_has : (k n : ℕ) → 0 < n → n < 2 ^ k → has n (count_trailing_zeros k n) ≡ true
unfolding count_trailing_zeros
low_has zero n h g = absurd (omega arith)
low_has (suc k) n h g = go (n % 2) refl (λ l. low_has k (n / 2) l (omega (arith, pow-suc 2 k)))
  where
    go : (d : ℕ) → n % 2 ≡ d → (0 < n / 2 → has (n / 2) (count_trailing_zeros k (n / 2)) ≡ true) → has n (under d (count_trailing_zeros k (n / 2))) ≡ true
    go zero e f = sym (half_has n (count_trailing_zeros k (n / 2))) ∙ f (omega arith)
    go (suc d) e f = let one : n % 2 ≡ 1 = omega arith in rw (div-one n) (eq-eqb (n % 2) 1 one)

-- taking one from a number turns its lowest set bit and all below it
low_off : (k n : ℕ) → 0 < n → n < 2 ^ k → bit_and n (n - 1) ≡ n - 2 ^ count_trailing_zeros k n
unfolding count_trailing_zeros
low_off zero n h g = absurd (omega arith)
low_off (suc k) n h g = go (n % 2) refl (λ l. low_off k (n / 2) l (omega (arith, pow-suc 2 k)))
  where
    go : (d : ℕ) → n % 2 ≡ d → (0 < n / 2 → bit_and (n / 2) (n / 2 - 1) ≡ n / 2 - 2 ^ count_trailing_zeros k (n / 2)) → bit_and n (n - 1) ≡ n - 2 ^ under d (count_trailing_zeros k (n / 2))
    go zero e f =
        let half : (n - 1) / 2 ≡ n / 2 - 1 = omega arith in
        let odd : (n - 1) % 2 ≡ 1 = omega arith in
        rw (and_step n (n - 1), half, odd, e, f (omega arith)) (omega (arith, pow-suc 2 (count_trailing_zeros k (n / 2))))
    go (suc d) e f =
        let half : (n - 1) / 2 ≡ n / 2 = omega arith in
        let even : (n - 1) % 2 ≡ 0 = omega arith in
        rw (and_step n (n - 1), half, even, and_self (n / 2)) (omega arith)

pub lowest_in : (n j : ℕ) → 0 < n → n < 2 ^ 64 → j ≡ count_trailing_zeros 64 n → has n j ≡ true
lowest_in n j h g e = rw e (low_has 64 n h g)

-- the highest
module _ (a : ℕ) (p : 0 < a) (l : a < 2 ^ 64) where
  pub highest_room : count_leading_zeros 64 a ≤ 63
  highest_room = omega (arith, (leading_top 64 a p l).1)

  pub highest_in : has a (63 - count_leading_zeros 64 a) ≡ true
  highest_in =
      let (j, e, low, high) = leading_top 64 a p l in
      let k : 63 - count_leading_zeros 64 a ≡ j = omega arith in
      let q : a / 2 ^ j ≡ 1 = div-eq_of_lt-le (2 ^ j) (omega arith) (omega (arith, pow-suc 2 j)) in
      rw (k, q)

pub ruleset highest = (highest_room, highest_in)

pub lowest_out : (n : ℕ) → 0 < n → n < 2 ^ 64 → bit_and n (n - 1) ≡ without n (count_trailing_zeros 64 n)
lowest_out n h g = low_off 64 n h g ∙ simp (low_has 64 n h g)

pub next_without : (n j next : ℕ) → j ≡ count_trailing_zeros 64 n → next ≡ without n (count_trailing_zeros 64 n) → next ≡ without n j
next_without n j next e f = rw e f

-- a set is less without its lowest number
pub fewer : (a j next : ℕ) → 0 < a → j ≡ count_trailing_zeros 64 a → has a j ≡ true → next ≡ without a (count_trailing_zeros 64 a) → next < a
fewer a j next l e h f = rw (f, ← e, h) (omega (arith, pow_pos j))

-- the power of a number in a set is within the set
pub held_power : (a i : ℕ) → has a i ≡ true → 2 ^ i ≤ a
held_power a i h = go (dec_lt a (2 ^ i))
  where
    go : Dec (a < 2 ^ i) → 2 ^ i ≤ a
    go (yes l) = absurd (let e : false ≡ true = (rw (div-eq_of_lt l) at h) in true≢false (sym e))
    go (no k) = omega arith

pub ruleset singles = (single_low, single_high)

pub ruleset pasts = (contains_past, below_past)
