-- Bits as sets: the bit at i of each operation follows from the operands' bits at i, and numbers with the same bits are equal, of whatever width, since above a number all bits are 0.
use Prim.Native.Nat.{ℕ, zero, suc, ◌+◌, ◌-◌, ◌/◌, ◌%◌, ◌^◌, ◌<◌, ◌≤◌, min, max}
use native.Mathlib.Nat.{pow-suc, div-one, zero-div, div-eq_of_lt, lt_of_lt_of_le}
use native.Mathlib.Numerals.{one-add}
use native.Mathlib.Omega.{arith}
use native.Mathlib.Decide.{dec_lt, ℕ_discrete}
use mathlib.Core.Path.{◌≡◌, refl, sym, ap, ◌∙◌}
use mathlib.Core.Logic.{◌⊎◌, inl, inr, ⊎_elim}
use mathlib.Core.Bool.{Bool, true, false, cond, ◌||◌, true≢false}
use lib.Dec.{eqb}
use lib.Pow.{shr-shr, pow-lt, pow_mono}
use lib.Bits.{bit_and, bit_or, bit_xor, differ, and_step, or_step, xor_step, and_shr, or_shr, xor_shr, and_le_l, and_le_r, and_comm, or_lt, xor_add_and}
use borrow.Author.Tests.{eq-eqb, eqb-true, eqb-false}
use Rattle.model.specs.Sets.{has, within, with, without}
use Rattle.model.proofs.Truth.{true_or_false, either, or_left, or_right, same_truth}

-- the bit at i
abbrev bit : ℕ → ℕ → ℕ
bit a i = a / 2 ^ i % 2

-- arithmetic that reads a membership as a bit that is 1
ruleset bits = (arith, eqb-true, eqb-false, eq-eqb)

bit_or_lem : (a b i : ℕ) → bit (bit_or a b) i ≡ max (bit a i) (bit b i)
bit_or_lem a b i = rw (or_shr a b i) (omega (arith, or_step (a / 2 ^ i) (b / 2 ^ i)))

bit_and_lem : (a b i : ℕ) → bit (bit_and a b) i ≡ min (bit a i) (bit b i)
bit_and_lem a b i = rw (and_shr a b i) (omega (arith, and_step (a / 2 ^ i) (b / 2 ^ i)))

-- the bit above is that of the half
half_bit : (a i : ℕ) → bit (a / 2) i ≡ bit a (suc i)
half_bit a i = ap (λ (n : ℕ). n % 2) (shr-shr a 1 i ∙ rw one-add)

pub half_has : (a i : ℕ) → has (a / 2) i ≡ has a (suc i)
half_has a i = ap (λ (n : ℕ). eqb n 1) (half_bit a i)

-- n is any bound, to recurse on
same_bits : (n a b : ℕ) → a ≤ n → b ≤ n → ((i : ℕ) → bit a i ≡ bit b i) → a ≡ b
same_bits zero a b ha hb f = omega arith
same_bits (suc n) a b ha hb f =
    let e : a / 2 ≡ b / 2 = same_bits n (a / 2) (b / 2) (omega arith) (omega arith) (λ i. half_bit a i ∙ f (suc i) ∙ sym (half_bit b i)) in
    omega (arith, f 0, div-one a, div-one b)

pub has_zero : (i : ℕ) → has 0 i ≡ false
has_zero i = rw (zero-div (2 ^ i))

-- a number is in a set or not
pub not_in : (a i : ℕ) → (has a i ≡ true → ⊥) → has a i ≡ false
not_in a i n = ⊎_elim (λ h. absurd (n h)) (λ h. h) (true_or_false (has a i))

pub in_not : {A : Type 0} (a i : ℕ) → has a i ≡ true → has a i ≡ false → A
in_not a i h n = absurd (true≢false (sym h ∙ n))

pub in_none : {A : Type 0} (i : ℕ) → has 0 i ≡ true → A
in_none i h = in_not 0 i h (has_zero i)

-- membership in a union, both ways
pub has_or_l : (a b i : ℕ) → has a i ≡ true → has (bit_or a b) i ≡ true
has_or_l a b i h = omega (bits, bit_or_lem a b i)

pub has_or_r : (a b i : ℕ) → has b i ≡ true → has (bit_or a b) i ≡ true
has_or_r a b i h = omega (bits, bit_or_lem a b i)

pub or_has : (a b i : ℕ) → has (bit_or a b) i ≡ true → (has a i ≡ true) ⊎ (has b i ≡ true)
or_has a b i h = ⊎_elim inl (λ n. inr (omega (bits, bit_or_lem a b i))) (true_or_false (has a i))

pub has_or : (a b i : ℕ) → has (bit_or a b) i ≡ has a i || has b i
has_or a b i =
    same_truth (has (bit_or a b) i) (has a i || has b i)
    (λ h. ⊎_elim (or_left (has a i) (has b i)) (or_right (has a i) (has b i)) (or_has a b i h))
    (λ h. ⊎_elim (has_or_l a b i) (has_or_r a b i) (either (has a i) (has b i) h))

pub has_and : (a b i : ℕ) → has a i ≡ true → has b i ≡ true → has (bit_and a b) i ≡ true
has_and a b i h k = omega (bits, bit_and_lem a b i)

pub and_has : (a b i : ℕ) → has (bit_and a b) i ≡ true → (has a i ≡ true) × (has b i ≡ true)
and_has a b i h = (omega (bits, bit_and_lem a b i), omega (bits, bit_and_lem a b i))

-- inclusion is that every member of a is one of b
pub within_has : (a b i : ℕ) → within a b ≡ true → has a i ≡ true → has b i ≡ true
within_has a b i s h = omega (bits, bit_and_lem a b i, ap (λ (n : ℕ). bit n i) (eqb-true (bit_and a b) a s))

pub has_within : (a b : ℕ) → ((i : ℕ) → has a i ≡ true → has b i ≡ true) → within a b ≡ true
has_within a b f = eq-eqb (bit_and a b) a (same_bits a (bit_and a b) a (and_le_l a b) (omega arith) same)
  where
    same : (i : ℕ) → bit (bit_and a b) i ≡ bit a i
    same i = ⊎_elim (λ y. omega (bits, bit_and_lem a b i, f i y)) (λ n. omega (bits, bit_and_lem a b i)) (true_or_false (has a i))

pub subset_le : (a b : ℕ) → ((i : ℕ) → has a i ≡ true → has b i ≡ true) → a ≤ b
subset_le a b f = omega (arith, eqb-true (bit_and a b) a (has_within a b f), and_le_r a b)

pub same_sets : (a b : ℕ) → ((i : ℕ) → has a i ≡ true → has b i ≡ true) → ((i : ℕ) → has b i ≡ true → has a i ≡ true) → a ≡ b
same_sets a b f g = omega (arith, subset_le a b f, subset_le b a g)

-- a set is less than with a number that it has not
pub or_grows : (a b i : ℕ) → has b i ≡ true → has a i ≡ false → a < bit_or a b
or_grows a b i h n = go (dec_lt a (bit_or a b))
  where
    go : Dec (a < bit_or a b) → a < bit_or a b
    go (yes l) = l
    go (no k) =
        let same : bit_or a b ≡ a = omega (arith, subset_le a (bit_or a b) (has_or_l a b)) in
        in_not a i (rw same at (has_or_r a b i h)) n

-- sets that differ in no number are the same
pub xor_none : (a b : ℕ) → bit_xor a b ≡ 0 → a ≡ b
xor_none a b e = omega (arith, xor_add_and a b, and_le_l a b, and_le_r a b)

pub or_assoc : (a b c : ℕ) → bit_or (bit_or a b) c ≡ bit_or a (bit_or b c)
or_assoc a b c =
    same_sets _ _
    (λ i h. ⊎_elim (λ g. ⊎_elim (λ k. has_or_l a (bit_or b c) i k) (λ k. has_or_r a (bit_or b c) i (has_or_l b c i k)) (or_has a b i g))
    (λ g. has_or_r a (bit_or b c) i (has_or_r b c i g)) (or_has (bit_or a b) c i h))
    (λ i h. ⊎_elim (λ g. has_or_l (bit_or a b) c i (has_or_l a b i g))
    (λ g. ⊎_elim (λ k. has_or_l (bit_or a b) c i (has_or_r a b i k)) (λ k. has_or_r (bit_or a b) c i k) (or_has b c i g)) (or_has a (bit_or b c) i h))

-- a set below 2 ^ n has only numbers below n
pub has_below : (n a i : ℕ) → a < 2 ^ n → has a i ≡ true → i < n
has_below n a i l h = go (dec_lt i n)
  where
    go : Dec (i < n) → i < n
    go (yes k) = k
    go (no k) =
        let q : n ≤ i = omega arith in
        let z : a / 2 ^ i ≡ 0 = div-eq_of_lt (lt_of_lt_of_le l (pow_mono q)) in
        absurd (omega bits)

-- the only member of a power is its exponent
half_power : (i : ℕ) → 2 ^ suc i / 2 ≡ 2 ^ i
half_power i = omega (arith, pow-suc 2 i)

power_has : (i : ℕ) → bit (2 ^ i) i ≡ 1
power_has zero = refl
power_has (suc i) = sym (half_bit (2 ^ suc i) i) ∙ rw half_power (power_has i)

power_only : (i j : ℕ) → (j ≡ i → ⊥) → bit (2 ^ i) j ≡ 0
power_only zero zero n = absurd (n refl)
power_only zero (suc j) n = sym (half_bit 1 j) ∙ rw (zero-div (2 ^ j))
power_only (suc i) zero n = omega (arith, pow-suc 2 i, div-one (2 ^ suc i))
power_only (suc i) (suc j) n = sym (half_bit (2 ^ suc i) j) ∙ rw half_power (power_only i j (λ e. n (ap suc e)))

pub power_is : (i j : ℕ) → has (2 ^ i) j ≡ true → j ≡ i
power_is i j h = go (ℕ_discrete j i)
  where
    go : Dec (j ≡ i) → j ≡ i
    go (yes e) = e
    go (no n) = absurd (omega (bits, power_only i j n))

-- the only member of a power is its exponent
pub has_power : (j i : ℕ) → has (2 ^ j) i ≡ eqb i j
has_power j i = same_truth (has (2 ^ j) i) (eqb i j) (λ h. eq-eqb i j (power_is j i h)) (λ h. let e = eqb-true i j h in rw e (eq-eqb _ 1 (power_has j)))

pub power_in : (i : ℕ) → has (2 ^ i) i ≡ true
power_in i = eq-eqb _ 1 (power_has i)

-- membership in the set with i
pub has_with_same : (a i : ℕ) → has (with a i) i ≡ true
has_with_same a i = has_or_r a (2 ^ i) i (power_in i)

pub has_with : (a i j : ℕ) → has a j ≡ true → has (with a i) j ≡ true
has_with a i j h = has_or_l a (2 ^ i) j h

pub with_has : (a i j : ℕ) → has (with a i) j ≡ true → (j ≡ i) ⊎ (has a j ≡ true)
with_has a i j h = ⊎_elim inr (λ g. inl (power_is i j g)) (or_has a (2 ^ i) j h)

pub with_below : (n a i : ℕ) → a < 2 ^ n → i < n → with a i < 2 ^ n
with_below n a i h l = or_lt n a (2 ^ i) h (pow-lt l)

-- removal is by exclusive or, whose bits are known
differ_is : (x y : ℕ) → differ x y ≡ (x - y) + (y - x)
differ_is zero y = omega arith
differ_is (suc x) zero = omega arith
differ_is (suc x) (suc y) = omega (arith, differ_is x y)

bit_xor_lem : (a b i : ℕ) → bit (bit_xor a b) i ≡ (bit a i - bit b i) + (bit b i - bit a i)
bit_xor_lem a b i = rw (xor_shr a b i) (omega (arith, xor_step (a / 2 ^ i) (b / 2 ^ i), differ_is (a / 2 ^ i % 2) (b / 2 ^ i % 2)))

-- where b lies in a, the numbers in which they differ are those of a that are not in b
pub xor_has : (a b i : ℕ) → (has b i ≡ true → has a i ≡ true) → has (bit_xor a b) i ≡ true → (has a i ≡ true) × (has b i ≡ false)
xor_has a b i f h = ⊎_elim (λ y. absurd (let k = f y in omega (bits, bit_xor_lem a b i))) (λ n. (omega (bits, bit_xor_lem a b i), n)) (true_or_false (has b i))

pub xor_in : (a b i : ℕ) → has a i ≡ true → has b i ≡ false → has (bit_xor a b) i ≡ true
xor_in a b i h n = omega (bits, bit_xor_lem a b i)

-- taking a member's power off flips its bit
minus_xor : (a i : ℕ) → has a i ≡ true → a - 2 ^ i ≡ bit_xor a (2 ^ i)
minus_xor a i h =
    let e = eqb-true (bit_and (2 ^ i) a) (2 ^ i) (has_within (2 ^ i) a (λ j g. rw (power_is i j g) h)) in
    omega (arith, xor_add_and a (2 ^ i), and_comm a (2 ^ i))

-- membership in the set without i
pub has_without : (a i j : ℕ) → has a j ≡ true → (j ≡ i → ⊥) → has (without a i) j ≡ true
has_without a i j h n = go (has a i) refl
  where
    go : (b : Bool) → has a i ≡ b → has (cond b (a - 2 ^ i) a) j ≡ true
    go true g = rw (minus_xor a i g) (omega (bits, bit_xor_lem a (2 ^ i) j, power_only i j n))
    go false g = h

pub without_has : (a i j : ℕ) → has (without a i) j ≡ true → (has a j ≡ true) × (j ≡ i → ⊥)
without_has a i j = go (has a i) refl (ℕ_discrete j i)
  where
    go : (b : Bool) → has a i ≡ b → Dec (j ≡ i) → has (cond b (a - 2 ^ i) a) j ≡ true → (has a j ≡ true) × (j ≡ i → ⊥)
    go true g (yes e) h = absurd (let q = rw (e, minus_xor a i g) at h in omega (bits, bit_xor_lem a (2 ^ i) i, power_has i))
    go true g (no n) h = (let q = rw (minus_xor a i g) at h in omega (bits, bit_xor_lem a (2 ^ i) j, power_only i j n), n)
    go false g d h = (h, λ e. let q = rw e at h in omega bits)

pub without_le : (a i : ℕ) → without a i ≤ a
without_le a i = go (has a i)
  where
    go : (b : Bool) → cond b (a - 2 ^ i) a ≤ a
    go true = omega arith
    go false = omega arith
