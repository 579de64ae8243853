-- Integers under sum and product as far as the laws of values need them: the product distributes over the sum, and congruence modulo 2^32 passes through sums, negations and sides.
use Prim.Native.Nat.{ℕ, zero, suc, ◌/◌, ◌%◌, ◌^◌}
use native.Mathlib.Nat.{mod-add-div'}
use mathlib.Core.Path.{◌≡◌, refl, sym, ◌∙◌, ap, ap₂}
use lib.IntN.{ℤ, pos, negsuc, suc_ℤ, pred_ℤ, neg_ℤ, nat_abs, ◌+ℤ◌, ◌-ℤ◌, ◌*ℤ◌, neg_ℤ-neg_ℤ, neg_ℤ-+ℤ, +ℤ-suc_ℤ, +ℤ-pred_ℤ, +ℤ_idr, +ℤ_assoc, +ℤ_comm, +ℤ-neg_ℤ_cancel, zero-*ℤ, suc_ℤ-*ℤ, pred_ℤ-*ℤ}
use Rattle.model.specs.Signed.{Congruent}

-- the product distributes over the sum: one more in the second summand, one less, then all
more_mul : (x y z : ℤ) → (x +ℤ y) *ℤ z ≡ x *ℤ z +ℤ y *ℤ z → (x +ℤ suc_ℤ y) *ℤ z ≡ x *ℤ z +ℤ suc_ℤ y *ℤ z
more_mul x y z h =
    ap (λ w. w *ℤ z) (+ℤ-suc_ℤ x y) ∙ suc_ℤ-*ℤ (x +ℤ y) z ∙ ap (λ w. w +ℤ z) h
    ∙ +ℤ_assoc (x *ℤ z) (y *ℤ z) z ∙ ap (λ w. x *ℤ z +ℤ w) (sym (suc_ℤ-*ℤ y z))

less_mul : (x y z : ℤ) → (x +ℤ y) *ℤ z ≡ x *ℤ z +ℤ y *ℤ z → (x +ℤ pred_ℤ y) *ℤ z ≡ x *ℤ z +ℤ pred_ℤ y *ℤ z
less_mul x y z h =
    ap (λ w. w *ℤ z) (+ℤ-pred_ℤ x y) ∙ pred_ℤ-*ℤ (x +ℤ y) z ∙ ap (λ w. w -ℤ z) h
    ∙ +ℤ_assoc (x *ℤ z) (y *ℤ z) (neg_ℤ z) ∙ ap (λ w. x *ℤ z +ℤ w) (sym (pred_ℤ-*ℤ y z))

none_mul : (x z : ℤ) → (x +ℤ pos 0) *ℤ z ≡ x *ℤ z +ℤ pos 0 *ℤ z
none_mul x z = ap (λ w. w *ℤ z) (+ℤ_idr x) ∙ sym (ap (λ w. x *ℤ z +ℤ w) (zero-*ℤ z) ∙ +ℤ_idr (x *ℤ z))

pub add_mul : (x y z : ℤ) → (x +ℤ y) *ℤ z ≡ x *ℤ z +ℤ y *ℤ z
add_mul x (pos zero) z = none_mul x z
add_mul x (pos (suc n)) z = more_mul x (pos n) z (add_mul x (pos n) z)
add_mul x (negsuc zero) z = less_mul x (pos 0) z (none_mul x z)
add_mul x (negsuc (suc n)) z = less_mul x (negsuc n) z (add_mul x (negsuc n) z)

pub neg_mul : (x y : ℤ) → neg_ℤ x *ℤ y ≡ neg_ℤ (x *ℤ y)
neg_mul (pos zero) y = zero-*ℤ y ∙ sym (ap neg_ℤ (zero-*ℤ y))
neg_mul (pos (suc n)) (pos b) = refl
neg_mul (pos (suc n)) (negsuc b) = sym (neg_ℤ-neg_ℤ _)
neg_mul (negsuc n) (pos b) = sym (neg_ℤ-neg_ℤ _)
neg_mul (negsuc n) (negsuc b) = refl

pub abs_neg : (x : ℤ) → nat_abs (neg_ℤ x) ≡ nat_abs x
abs_neg (pos zero) = refl
abs_neg (pos (suc n)) = refl
abs_neg (negsuc n) = refl

-- summands change places
swap_mid : (a b c d : ℤ) → (a +ℤ b) +ℤ (c +ℤ d) ≡ (a +ℤ c) +ℤ (b +ℤ d)
swap_mid a b c d =
    +ℤ_assoc a b (c +ℤ d) ∙ ap (λ w. a +ℤ w) (sym (+ℤ_assoc b c d) ∙ ap (λ w. w +ℤ d) (+ℤ_comm b c) ∙ +ℤ_assoc c b d)
    ∙ sym (+ℤ_assoc a c (b +ℤ d))

-- what is added on one side is taken off on the other
pub moved : (x y n m : ℤ) → x +ℤ m ≡ n +ℤ y → x -ℤ y ≡ n -ℤ m
moved x y n m e =
    ap (λ w. w -ℤ y) (sym (+ℤ-neg_ℤ_cancel x m) ∙ ap (λ w. w -ℤ m) e) ∙ either_order (n +ℤ y) (neg_ℤ m) (neg_ℤ y) ∙ ap (λ w. w -ℤ m) (+ℤ-neg_ℤ_cancel n y)
  where
    either_order : (a b c : ℤ) → (a +ℤ b) +ℤ c ≡ (a +ℤ c) +ℤ b
    either_order a b c = +ℤ_assoc a b c ∙ ap (λ w. a +ℤ w) (+ℤ_comm b c) ∙ sym (+ℤ_assoc a c b)

-- 2^32 as an integer
abbrev pub period : ℤ
period = pos (2 ^ 32)

module _ {x y : ℤ} where
  pub flip_congruent : Congruent x y → Congruent y x
  flip_congruent h = record {
    times = neg_ℤ h.times;
    differ = sym (ap (λ w. x +ℤ w) (neg_mul h.times period) ∙ ap (λ w. w -ℤ h.times *ℤ period) h.differ ∙ +ℤ-neg_ℤ_cancel y (h.times *ℤ period));
  }

  pub then_congruent : {z : ℤ} → Congruent x y → Congruent y z → Congruent x z
  then_congruent {z} h k = record {
    times = k.times +ℤ h.times;
    differ = h.differ ∙ ap (λ w. w +ℤ h.times *ℤ period) k.differ ∙ +ℤ_assoc z (k.times *ℤ period) (h.times *ℤ period)
        ∙ ap (λ w. z +ℤ w) (sym (add_mul k.times h.times period));
  }

  pub neg_congruent : Congruent x y → Congruent (neg_ℤ x) (neg_ℤ y)
  neg_congruent h = record {
    times = neg_ℤ h.times;
    differ = ap neg_ℤ h.differ ∙ neg_ℤ-+ℤ y (h.times *ℤ period) ∙ ap (λ w. neg_ℤ y +ℤ w) (sym (neg_mul h.times period));
  }

  pub sum_congruent : {z w : ℤ} → Congruent x y → Congruent z w → Congruent (x +ℤ z) (y +ℤ w)
  sum_congruent {z} {w} h k = record {
    times = h.times +ℤ k.times;
    differ = ap₂ (λ a b. a +ℤ b) h.differ k.differ ∙ swap_mid y (h.times *ℤ period) w (k.times *ℤ period)
        ∙ ap (λ v. (y +ℤ w) +ℤ v) (sym (add_mul h.times k.times period));
  }

-- a number is congruent to its low 32 bits
pub low_congruent : (n : ℕ) → Congruent (pos n) (pos (n % 2 ^ 32))
low_congruent n = record { times = pos (n / 2 ^ 32); differ = ap pos (sym (mod-add-div' n (2 ^ 32))) }
