-- What the operators do with values, said of the integers that these stand for. Sums, differences and products are taken of the bits, which are congruent to the integers; order and quotient go by the signs.
use Prim.Native.Nat.{ℕ, zero, suc, ◌+◌, ◌-◌, ◌*◌, ◌/◌, ◌%◌, ◌^◌, ◌≤◌, ◌<◌}
use native.Mathlib.Omega.{arith}
use native.Mathlib.Decide.{ℕ_discrete, dec_lt}
use native.Mathlib.Nat.{div-add-mod', mod-lt, mod-one, div-mul-le_self, div-le_self, div-one, le_trans, mul-le-mul_left, suc-mul}
use mathlib.Core.Path.{◌≡◌, refl, sym, ◌∙◌, ap}
use mathlib.Core.Bool.{Bool, true, false, cond}
use lib.Dec.{eqb, ltb, leb}
use lib.IntN.{ℤ, pos, negsuc, neg_ℤ, nat_abs, ◌+ℤ◌, ◌-ℤ◌, ◌*ℤ◌, +ℤ_idl, +ℤ_idr, *ℤ_comm, neg_ℤ-+ℤ, neg_ℤ-neg_ℤ, +ℤ-neg_ℤ_cancel, pos-ne-negsuc}
use lib.Signed.{lt_z, quot_z, rem_z}
use borrow.Author.Tests.{le-leb, lt-leb, ltb-true, lt-ltb, le-ltb, eq-eqb, ne_eqb}
use Rattle.model.specs.Syntax.{Operator, sum, difference, product, quotient, less, equal, rounded}
use Rattle.model.specs.Value.{lowest, modulus, negative, negate, magnitude, dropped, nearest, quotient_by, as_value, apply}
use Rattle.model.specs.Signed.{signed, Congruent, Quotient, Nearest}
use Rattle.model.proofs.Truth.{same_truth}
use Rattle.model.proofs.Integers.{add_mul, neg_mul, abs_neg, flip_congruent, then_congruent, neg_congruent, sum_congruent, low_congruent, moved, period}

-- a value's bits are congruent to what it stands for
signed_congruent : (a : ℕ) → Congruent (signed a) (pos a)
unfolding signed
signed_congruent a = go (leb (2 ^ 31) a)
  where
    go : (b : Bool) → Congruent (cond b (pos a -ℤ period) (pos a)) (pos a)
    go true = record { times = negsuc 0; differ = refl }
    go false = record { times = pos 0; differ = sym (+ℤ_idr (pos a)) }

-- so the value that keeps the low 32 bits of a number stands for what is congruent to that number
kept : (n : ℕ) {z : ℤ} → Congruent z (pos n) → Congruent (signed (n % 2 ^ 32)) z
kept n h = then_congruent (signed_congruent (n % 2 ^ 32)) (flip_congruent (then_congruent h (low_congruent n)))

-- a sum is congruent to the integers' sum
pub sum_integers : (a b : ℕ) → Congruent (signed (apply sum a b)) (signed a +ℤ signed b)
unfolding apply
sum_integers a b = kept (a + b) (sum_congruent (signed_congruent a) (signed_congruent b))

-- a difference to the integers' difference
pub difference_integers : (a b : ℕ) → b < 2 ^ 32 → Congruent (signed (apply difference a b)) (signed a -ℤ signed b)
unfolding apply
difference_integers a b l =
    let n = a + modulus - b in
    let sides : a + modulus ≡ n + b = omega arith in
    kept n (then_congruent (sum_congruent (signed_congruent a) (neg_congruent (signed_congruent b)))
    (record { times = negsuc 0; differ = moved (pos a) (pos b) (pos n) period (ap pos sides) }))

-- a factor is as good as what it stands for
factor_congruent : (a : ℕ) (z : ℤ) → Congruent (signed a *ℤ z) (pos a *ℤ z)
unfolding signed
factor_congruent a z = go (leb (2 ^ 31) a)
  where
    go : (b : Bool) → Congruent (cond b (pos a -ℤ period) (pos a) *ℤ z) (pos a *ℤ z)
    go true = record { times = neg_ℤ z; differ = add_mul (pos a) (neg_ℤ period) z ∙ ap (λ w. pos a *ℤ z +ℤ w) (neg_mul period z ∙ ap neg_ℤ (*ℤ_comm period z) ∙ sym (neg_mul z period)) }
    go false = record { times = pos 0; differ = sym (+ℤ_idr (pos a *ℤ z)) }

-- a product to the integers' product
pub product_integers : (a b : ℕ) → Congruent (signed (apply product a b)) (signed a *ℤ signed b)
unfolding apply
product_integers a b =
    let second : Congruent (pos a *ℤ signed b) (pos a *ℤ pos b) = rw (*ℤ_comm (pos a) (signed b), *ℤ_comm (pos a) (pos b)) (factor_congruent b (pos a)) in
    kept (a * b) (then_congruent (factor_congruent a (signed b)) second)

-- a value by its sign
pub signed_plain : (a : ℕ) → a < 2 ^ 31 → signed a ≡ pos a
unfolding signed
signed_plain a l = rw (lt-leb (2 ^ 31) a l)

signed_minus : (a : ℕ) → 2 ^ 31 ≤ a → a < 2 ^ 32 → signed a ≡ neg_ℤ (pos (2 ^ 32 - a))
unfolding signed
signed_minus a l h =
    let all : a + (2 ^ 32 - a) ≡ 0 + 2 ^ 32 = omega arith in
    rw (le-leb (2 ^ 31) a l) (moved (pos a) period (pos 0) (pos (2 ^ 32 - a)) (ap pos all) ∙ +ℤ_idl (neg_ℤ (pos (2 ^ 32 - a))))

pub signed_negsuc : (a : ℕ) → 2 ^ 31 ≤ a → a < 2 ^ 32 → signed a ≡ negsuc (2 ^ 32 - suc a)
signed_negsuc a l h = let one : 2 ^ 32 - a ≡ suc (2 ^ 32 - suc a) = omega arith in signed_minus a l h ∙ ap (λ n. neg_ℤ (pos n)) one

-- the order is the integers'
pub less_integers : (a b : ℕ) → a < 2 ^ 32 → b < 2 ^ 32 → apply less a b ≡ as_value (lt_z (signed a) (signed b))
unfolding apply
less_integers a b l k = ap as_value (go (dec_lt a (2 ^ 31)) (dec_lt b (2 ^ 31)))
  where
    -- where a and b go when the lowest value goes to 0
    up : ℕ → ℕ
    up c = (c + lowest) % modulus

    same : (v w : ℕ) → (up a < up b → v < w) → (v < w → up a < up b) → ltb (up a) (up b) ≡ ltb v w
    same v w f g = same_truth (ltb (up a) (up b)) (ltb v w) (λ t. lt-ltb v w (f (ltb-true (up a) (up b) t))) (λ t. lt-ltb (up a) (up b) (g (ltb-true v w t)))

    go : Dec (a < 2 ^ 31) → Dec (b < 2 ^ 31) → ltb (up a) (up b) ≡ lt_z (signed a) (signed b)
    go (yes p) (yes q) = rw (signed_plain a p, signed_plain b q) (same a b (omega arith) (omega arith))
    go (yes p) (no q) = rw (signed_plain a p, signed_negsuc b (omega arith) k) (le-ltb (up a) (up b) (omega arith))
    go (no p) (yes q) = rw (signed_negsuc a (omega arith) l, signed_plain b q) (lt-ltb (up a) (up b) (omega arith))
    go (no p) (no q) = rw (signed_negsuc a (omega arith) l, signed_negsuc b (omega arith) k) (same (2 ^ 32 - suc b) (2 ^ 32 - suc a) (omega arith) (omega arith))

-- different values stand for different integers
pub signed_apart : (a b : ℕ) → a < 2 ^ 32 → b < 2 ^ 32 → signed a ≡ signed b → a ≡ b
signed_apart a b l k e = go (dec_lt a (2 ^ 31)) (dec_lt b (2 ^ 31))
  where
    go : Dec (a < 2 ^ 31) → Dec (b < 2 ^ 31) → a ≡ b
    go (yes p) (yes q) = cc (signed_plain a p, signed_plain b q)
    go (yes p) (no q) = absurd (pos-ne-negsuc a _ (sym (signed_plain a p) ∙ e ∙ signed_negsuc b (omega arith) k))
    go (no p) (yes q) = absurd (pos-ne-negsuc b _ (sym (signed_plain b q) ∙ sym e ∙ signed_negsuc a (omega arith) l))
    go (no p) (no q) =
        let i = signed_negsuc a (omega arith) l in
        let j = signed_negsuc b (omega arith) k in
        let same : 2 ^ 32 - suc a ≡ 2 ^ 32 - suc b = cc in omega arith

-- equal is the integers' equality
pub equal_integers : (a b : ℕ) → a < 2 ^ 32 → b < 2 ^ 32
    → (signed a ≡ signed b → apply equal a b ≡ 1) × ((signed a ≡ signed b → ⊥) → apply equal a b ≡ 0)
unfolding apply
equal_integers a b l k = (λ e. ap as_value (eq-eqb a b (signed_apart a b l k e)), λ n. ap as_value (ne_eqb a b (λ e. n (ap signed e))))

-- how far a value is from zero is the size of what it stands for, and it is 0 for 0 only
pub size_signed : (a : ℕ) → a < 2 ^ 32 → nat_abs (signed a) ≡ magnitude a
size_signed a l = go (dec_lt a (2 ^ 31))
  where
    go : Dec (a < 2 ^ 31) → nat_abs (signed a) ≡ magnitude a
    go (yes p) = rw (signed_plain a p, lt-leb lowest a p)
    go (no p) = let minus : 2 ^ 31 ≤ a = omega arith in rw (signed_minus a minus l, abs_neg (pos (2 ^ 32 - a)), le-leb lowest a minus)

pub size_some : (a : ℕ) → a < 2 ^ 32 → (a ≡ 0 → ⊥) → 0 < magnitude a
size_some a l some = go (dec_lt a (2 ^ 31))
  where
    go : Dec (a < 2 ^ 31) → 0 < magnitude a
    go (yes p) = rw (lt-leb lowest a p) (omega arith)
    go (no p) = let minus : 2 ^ 31 ≤ a = omega arith in rw (le-leb lowest a minus) (omega arith)

size_within : (a : ℕ) → magnitude a ≤ 2 ^ 31
size_within a = go (dec_lt a (2 ^ 31))
  where
    go : Dec (a < 2 ^ 31) → magnitude a ≤ 2 ^ 31
    go (yes p) = rw (lt-leb lowest a p) (omega arith)
    go (no p) = let minus : 2 ^ 31 ≤ a = omega arith in rw (le-leb lowest a minus) (omega arith)

signed_negate : (k : ℕ) → k ≤ 2 ^ 31 → signed (negate k) ≡ neg_ℤ (pos k)
signed_negate zero l = signed_plain 0 (omega arith)
signed_negate (suc j) l =
    let bits : negate (suc j) ≡ 2 ^ 32 - suc j = omega arith in
    let back : 2 ^ 32 - (2 ^ 32 - suc j) ≡ suc j = omega arith in
    ap signed bits ∙ signed_minus (2 ^ 32 - suc j) (omega arith) (omega arith) ∙ ap (λ n. neg_ℤ (pos n)) back

-- what the laws of both quotients ask of the way sizes are divided: by 1 a size stays, and by more it comes to half at most, or
-- to one more than the half that is dropped
record Divides (divided : ℕ → ℕ → ℕ) : Type 0 where
  by_one : (n : ℕ) → divided n 1 ≡ n
  halved : (n d : ℕ) → 1 < d → 2 * divided n d ≤ n + 1

-- a divisor above 1 goes into a size at most half as often as 1 does
goes_into : (n d : ℕ) → 1 < d → n / d * 2 + n % d ≤ n
goes_into n d more = let twice : n / d * 2 ≤ n / d * d = mul-le-mul_left (n / d) more in omega (arith, div-add-mod' n d)

dropped_divides : Divides dropped
dropped_divides = record { by_one = div-one; halved = λ n d more. omega (arith, goes_into n d more) }

-- the nearest is one more where half of the divisor is left, or more
nearest_more : (n d : ℕ) → d ≤ 2 * (n % d) → nearest n d ≡ n / d + 1
nearest_more n d far = ap (λ half. cond half (n / d + 1) (n / d)) (le-leb d (2 * (n % d)) far)

nearest_same : (n d : ℕ) → 2 * (n % d) < d → nearest n d ≡ n / d
nearest_same n d near = ap (λ half. cond half (n / d + 1) (n / d)) (lt-leb d (2 * (n % d)) near)

nearest_divides : Divides nearest
nearest_divides = record { by_one = one; halved = λ n d more. go n d more (dec_lt (2 * (n % d)) d) }
  where
    one : (n : ℕ) → nearest n 1 ≡ n
    one n = let none = mod-one n in nearest_same n 1 (omega arith) ∙ div-one n

    go : (n d : ℕ) → 1 < d → Dec (2 * (n % d) < d) → 2 * nearest n d ≤ n + 1
    go n d more (yes near) = rw (nearest_same n d near) (omega (arith, goes_into n d more))
    go n d more (no far) = rw (nearest_more n d (omega arith)) (omega (arith, goes_into n d more))

module _ {divided : ℕ → ℕ → ℕ} (divides : Divides divided) (n d : ℕ) (some : 0 < d) where
  -- no more comes of a size than it is
  within : divided n d ≤ n
  within = go (ℕ_discrete d 1)
    where
      go : Dec (d ≡ 1) → divided n d ≤ n
      go (yes e) = rw e (omega (arith, divides.by_one n))
      go (no e) = omega (arith, divides.halved n d (omega arith))

  -- and less than 2^31, but of 2^31 by 1
  half : n ≤ 2 ^ 31 → (n ≡ 2 ^ 31 → d ≡ 1 → ⊥) → divided n d < 2 ^ 31
  half l fits = go (ℕ_discrete d 1)
    where
      go : Dec (d ≡ 1) → divided n d < 2 ^ 31
      go (yes e) = let below : n ≡ 2 ^ 31 → ⊥ = λ z. fits z e in rw e (omega (arith, divides.by_one n))
      go (no e) = omega (arith, divides.halved n d (omega arith))

-- what a quotient is by the signs of its operands
data BySigns (divided : ℕ → ℕ → ℕ) (a b : ℕ) : ℕ → Type 0 where
  plus_plus : a < 2 ^ 31 → b < 2 ^ 31 → BySigns divided a b (divided a b)
  plus_minus : a < 2 ^ 31 → 2 ^ 31 ≤ b → BySigns divided a b (negate (divided a (2 ^ 32 - b)))
  minus_plus : 2 ^ 31 ≤ a → b < 2 ^ 31 → BySigns divided a b (negate (divided (2 ^ 32 - a) b))
  minus_minus : 2 ^ 31 ≤ a → 2 ^ 31 ≤ b → BySigns divided a b (divided (2 ^ 32 - a) (2 ^ 32 - b))

by_signs : (divided : ℕ → ℕ → ℕ) (a b : ℕ) → (b ≡ 0 → ⊥) → BySigns divided a b (quotient_by divided a b)
unfolding quotient_by
by_signs divided a b some = go (dec_lt a (2 ^ 31)) (dec_lt b (2 ^ 31))
  where
    go : Dec (a < 2 ^ 31) → Dec (b < 2 ^ 31) → BySigns divided a b (quotient_by divided a b)
    go (yes p) (yes q) = rw (ne_eqb b 0 some, lt-leb lowest a p, lt-leb lowest b q) (plus_plus p q)
    go (yes p) (no q) = let minus : 2 ^ 31 ≤ b = omega arith in rw (ne_eqb b 0 some, lt-leb lowest a p, le-leb lowest b minus) (plus_minus p minus)
    go (no p) (yes q) = let minus : 2 ^ 31 ≤ a = omega arith in rw (ne_eqb b 0 some, le-leb lowest a minus, lt-leb lowest b q) (minus_plus minus q)
    go (no p) (no q) =
        let first : 2 ^ 31 ≤ a = omega arith in
        let second : 2 ^ 31 ≤ b = omega arith in
        rw (ne_eqb b 0 some, le-leb lowest a first, le-leb lowest b second) (minus_minus first second)

-- integers divided: their sizes are, and the sign is what theirs give
abbrev divided_z : (ℕ → ℕ → ℕ) → ℤ → ℤ → ℤ
divided_z divided (pos n) (pos d) = pos (divided n d)
divided_z divided (pos n) (negsuc d) = neg_ℤ (pos (divided n (suc d)))
divided_z divided (negsuc n) (pos d) = neg_ℤ (pos (divided (suc n) d))
divided_z divided (negsuc n) (negsuc d) = pos (divided (suc n) (suc d))

-- a quotient stands for the integers', unless that is no value: the lowest by -1
signed_divided : {divided : ℕ → ℕ → ℕ} → Divides divided → (a b : ℕ) → a < 2 ^ 32 → b < 2 ^ 32 → (b ≡ 0 → ⊥) → (a ≡ 2 ^ 31 → b ≡ 2 ^ 32 - 1 → ⊥)
    → signed (quotient_by divided a b) ≡ divided_z divided (signed a) (signed b)
signed_divided {divided} divides a b l k some fits = go (by_signs divided a b some)
  where
    size : (c : ℕ) → c < 2 ^ 32 → suc (2 ^ 32 - suc c) ≡ 2 ^ 32 - c
    size c h = omega arith

    go : {v : ℕ} → BySigns divided a b v → signed v ≡ divided_z divided (signed a) (signed b)
    go (plus_plus p q) = rw (signed_plain a p, signed_plain b q) (signed_plain (divided a b) (omega (arith, within divides a b (omega arith))))
    go (plus_minus p q) =
        let d = 2 ^ 32 - b in
        rw (signed_plain a p, signed_negsuc b q k, size b k) (signed_negate (divided a d) (omega (arith, within divides a d (omega arith))))
    go (minus_plus p q) =
        let n = 2 ^ 32 - a in
        rw (signed_negsuc a p l, signed_plain b q, size a l) (signed_negate (divided n b) (omega (arith, within divides n b (omega arith))))
    go (minus_minus p q) =
        let n = 2 ^ 32 - a in
        let d = 2 ^ 32 - b in
        rw (signed_negsuc a p l, signed_negsuc b q k, size a l, size b k)
        (signed_plain (divided n d) (half divides n d (omega arith) (omega arith) (λ e f. fits (omega arith) (omega arith))))

-- a number on the side of zero where another stands
abbrev beside : ℤ → ℤ → ℤ
beside (pos n) z = z
beside (negsuc n) z = neg_ℤ z

abs_beside : (x z : ℤ) → nat_abs (beside x z) ≡ nat_abs z
abs_beside (pos n) z = refl
abs_beside (negsuc n) z = abs_neg z

-- integers divided, times the divisor, are on the dividend's side, and so is what is left of it
module _ (divided : ℕ → ℕ → ℕ) where
  divided_times : (x y : ℤ) → divided_z divided x y *ℤ y ≡ beside x (pos (divided (nat_abs x) (nat_abs y) * nat_abs y))
  divided_times (pos n) (pos d) = refl
  divided_times (pos n) (negsuc d) = let k = divided n (suc d) in neg_mul (pos k) (negsuc d) ∙ neg_ℤ-neg_ℤ (pos (k * suc d))
  divided_times (negsuc n) (pos d) = neg_mul (pos (divided (suc n) d)) (pos d)
  divided_times (negsuc n) (negsuc d) = refl

  divided_leaves : (x y rest : ℤ) → pos (nat_abs x) ≡ pos (divided (nat_abs x) (nat_abs y) * nat_abs y) +ℤ rest
      → x ≡ divided_z divided x y *ℤ y +ℤ beside x rest
  divided_leaves x y rest e = go x e ∙ ap (λ w. w +ℤ beside x rest) (sym (divided_times x y))
    where
      go : (x : ℤ) → pos (nat_abs x) ≡ pos (divided (nat_abs x) (nat_abs y) * nat_abs y) +ℤ rest
          → x ≡ beside x (pos (divided (nat_abs x) (nat_abs y) * nat_abs y)) +ℤ beside x rest
      go (pos n) e = e
      go (negsuc n) e = ap neg_ℤ e ∙ neg_ℤ-+ℤ (pos (divided (suc n) (nat_abs y) * nat_abs y)) rest

-- with the fraction dropped they are the quotient of the integers
dropped_quotient : (x y : ℤ) → 0 < nat_abs y → Quotient x y (divided_z dropped x y)
dropped_quotient x y some =
    let n = nat_abs x in
    let d = nat_abs y in
    record {
      rest = beside x (pos (n % d));
      whole = divided_leaves dropped x y (pos (n % d)) (ap pos (sym (div-add-mod' n d)));
      small = rw (abs_beside x (pos (n % d))) (mod-lt n some);
      towards_zero = rw (divided_times dropped x y, abs_beside x (pos (n / d * d))) (div-mul-le_self n d);
    }

-- by the nearest, they are the nearest to it
nearest_nearest : (x y : ℤ) → 0 < nat_abs y → Nearest x y (divided_z nearest x y)
nearest_nearest x y some = go (dec_lt (2 * (n % d)) d)
  where
    n : ℕ
    n = nat_abs x

    d : ℕ
    d = nat_abs y

    go : Dec (2 * (n % d) < d) → Nearest x y (divided_z nearest x y)
    go (yes near) = record {
      rest = beside x (pos (n % d));
      whole = divided_leaves nearest x y (pos (n % d)) (rw (nearest_same n d near) (ap pos (sym (div-add-mod' n d))));
      at_most_half = rw (abs_beside x (pos (n % d))) (omega arith);
      halves_away = λ half. absurd (let at-half : 2 * (n % d) ≡ d = rw (abs_beside x (pos (n % d))) at half in omega arith);
    }
    go (no far) =
        let short = d - n % d in
        let all : n + short ≡ nearest n d * d =
        rw (nearest_more n d (omega arith)) (omega (arith, div-add-mod' n d, mod-lt n some, suc-mul (n / d) d)) in
        record {
          rest = beside x (neg_ℤ (pos short));
          whole = divided_leaves nearest x y (neg_ℤ (pos short)) (sym (+ℤ-neg_ℤ_cancel (pos n) (pos short)) ∙ ap (λ m. pos m -ℤ pos short) all);
          at_most_half = rw (abs_beside x (neg_ℤ (pos short)), abs_neg (pos short)) (omega (arith, mod-lt n some));
          halves_away = λ _. rw (divided_times nearest x y, abs_beside x (pos (nearest n d * d))) (omega arith);
        }

divisor_some : (b : ℕ) → b < 2 ^ 32 → (b ≡ 0 → ⊥) → 0 < nat_abs (signed b)
divisor_some b k some = rw (size_signed b k) (size_some b k some)

-- a quotient is the integers', its fraction dropped towards zero, unless that is no value: the lowest by -1
pub quotient_integers : (a b : ℕ) → a < 2 ^ 32 → b < 2 ^ 32 → (b ≡ 0 → ⊥) → (a ≡ 2 ^ 31 → b ≡ 2 ^ 32 - 1 → ⊥)
    → Quotient (signed a) (signed b) (signed (apply quotient a b))
unfolding apply
quotient_integers a b l k some fits = rw (signed_divided dropped_divides a b l k some fits) (dropped_quotient (signed a) (signed b) (divisor_some b k some))

-- a rounded one is the nearest to the integers', halves away from zero
pub rounded_integers : (a b : ℕ) → a < 2 ^ 32 → b < 2 ^ 32 → (b ≡ 0 → ⊥) → (a ≡ 2 ^ 31 → b ≡ 2 ^ 32 - 1 → ⊥)
    → Nearest (signed a) (signed b) (signed (apply rounded a b))
unfolding apply
rounded_integers a b l k some fits = rw (signed_divided nearest_divides a b l k some fits) (nearest_nearest (signed a) (signed b) (divisor_some b k some))

-- the quotient by the division of integers that a machine has
pub quotient_divides : (a b : ℕ) → a < 2 ^ 32 → b < 2 ^ 32 → (b ≡ 0 → ⊥) → (a ≡ 2 ^ 31 → b ≡ 2 ^ 32 - 1 → ⊥)
    → signed (apply quotient a b) ≡ quot_z (signed a) (signed b)
unfolding apply
quotient_divides a b l k some fits = signed_divided dropped_divides a b l k some fits ∙ machine (signed a) (signed b)
  where
    machine : (x y : ℤ) → divided_z dropped x y ≡ quot_z x y
    machine (pos n) (pos d) = refl
    machine (pos n) (negsuc d) = refl
    machine (negsuc n) (pos d) = refl
    machine (negsuc n) (negsuc d) = refl

-- and the size of what that division leaves
pub rest_size : (a b : ℕ) → a < 2 ^ 32 → b < 2 ^ 32 → nat_abs (rem_z (signed a) (signed b)) ≡ magnitude a % magnitude b
rest_size a b l k = rw (← (size_signed a l), ← (size_signed b k)) (machine (signed a) (signed b))
  where
    machine : (x y : ℤ) → nat_abs (rem_z x y) ≡ nat_abs x % nat_abs y
    machine (pos n) y = refl
    machine (negsuc n) y = abs_neg (pos (suc n % nat_abs y))

-- a divisor of 0 gives 0
none_by_zero : (divided : ℕ → ℕ → ℕ) (a : ℕ) → quotient_by divided a 0 ≡ 0
unfolding quotient_by
none_by_zero divided a = refl

pub by_zero : (a : ℕ) → apply quotient a 0 ≡ 0
unfolding apply
by_zero = none_by_zero dropped

pub rounded_by_zero : (a : ℕ) → apply rounded a 0 ≡ 0
unfolding apply
rounded_by_zero = none_by_zero nearest

-- the lowest value by -1 gives itself
lowest_itself : {divided : ℕ → ℕ → ℕ} → Divides divided → quotient_by divided (2 ^ 31) (2 ^ 32 - 1) ≡ 2 ^ 31
unfolding quotient_by
lowest_itself divides = divides.by_one (2 ^ 31)

pub lowest_by_minus_one : apply quotient (2 ^ 31) (2 ^ 32 - 1) ≡ 2 ^ 31
unfolding apply
lowest_by_minus_one = lowest_itself dropped_divides

pub rounded_lowest_by_minus_one : apply rounded (2 ^ 31) (2 ^ 32 - 1) ≡ 2 ^ 31
unfolding apply
rounded_lowest_by_minus_one = lowest_itself nearest_divides

-- a size with the sign that its operands' signs give it
abbrev pub sided : Bool → Bool → ℕ → ℕ
sided s t k = cond s (cond t k (negate k)) (cond t (negate k) k)

-- one more of a size is one further on its side
sided_more : (s t : Bool) (k : ℕ) → k ≤ 2 ^ 31 → sided s t (k + 1) ≡ (sided s t k + sided s t 1) % 2 ^ 32
sided_more true true k l = omega arith
sided_more true false k l = omega arith
sided_more false true k l = omega arith
sided_more false false k l = omega arith

-- the rounded quotient is the quotient where less than half of the divisor is left
pub rounded_stays : (a b : ℕ) → 2 * (magnitude a % magnitude b) < magnitude b → apply rounded a b ≡ apply quotient a b
unfolding apply quotient_by
rounded_stays a b near = ap (λ k. cond (eqb b 0) 0 (sided (negative a) (negative b) k)) (nearest_same (magnitude a) (magnitude b) near)

-- by 0 too
pub rounded_small : (a b : ℕ) → b < 2 ^ 32 → magnitude b < 2 → apply rounded a b ≡ apply quotient a b
rounded_small a b k small = go (ℕ_discrete b 0)
  where
    go : Dec (b ≡ 0) → apply rounded a b ≡ apply quotient a b
    go (yes e) = rw e (rounded_by_zero a ∙ sym (by_zero a))
    go (no some) =
        let one : magnitude b ≡ 1 = omega (arith, size_some b k some) in
        rounded_stays a b (rw (one, mod-one (magnitude a)) (omega arith))

-- and one further from zero where half of it is left, or more
pub rounded_further : (a b : ℕ) → (b ≡ 0 → ⊥) → magnitude b ≤ 2 * (magnitude a % magnitude b)
    → apply rounded a b ≡ (apply quotient a b + sided (negative a) (negative b) 1) % 2 ^ 32
unfolding apply quotient_by
rounded_further a b some far =
    let n = magnitude a in
    let d = magnitude b in
    rw (ne_eqb b 0 some)
    (ap (sided (negative a) (negative b)) (nearest_more n d far) ∙ sided_more (negative a) (negative b) (n / d) (le_trans (div-le_self n d) (size_within a)))

bit : (t : Bool) → as_value t < 2 ^ 32
bit true = omega arith
bit false = omega arith

-- a quotient of values is a value
quotient_below : {divided : ℕ → ℕ → ℕ} → Divides divided → (a b : ℕ) → a < 2 ^ 32 → b < 2 ^ 32 → quotient_by divided a b < 2 ^ 32
quotient_below {divided} divides a b l k = go (ℕ_discrete b 0)
  where
    signs : (b ≡ 0 → ⊥) → {v : ℕ} → BySigns divided a b v → v < 2 ^ 32
    signs some (plus_plus p q) = omega (arith, within divides a b (omega arith))
    signs some (plus_minus p q) = omega arith
    signs some (minus_plus p q) = omega arith
    signs some (minus_minus p q) = omega (arith, within divides (2 ^ 32 - a) (2 ^ 32 - b) (omega arith))

    go : Dec (b ≡ 0) → quotient_by divided a b < 2 ^ 32
    go (yes e) = rw (e, none_by_zero divided a) (omega arith)
    go (no some) = signs some (by_signs divided a b some)

-- what comes of values is a value
pub apply_below : (op : Operator) (a b : ℕ) → a < 2 ^ 32 → b < 2 ^ 32 → apply op a b < 2 ^ 32
unfolding apply
apply_below sum a b l k = omega arith
apply_below difference a b l k = omega arith
apply_below product a b l k = omega arith
apply_below quotient a b l k = quotient_below dropped_divides a b l k
apply_below less a b l k = bit (ltb ((a + lowest) % modulus) ((b + lowest) % modulus))
apply_below equal a b l k = bit (eqb a b)
apply_below rounded a b l k = quotient_below nearest_divides a b l k
