-- A group sees a set where their common part is not empty; so it sees more of a larger set, whoever it sees is in both, and an update without a gain shows it no meaning that it did not see before.
use Prim.Native.Nat.{ℕ, zero, suc, ◌/◌, ◌^◌, ◌≤◌}
use native.Mathlib.Nat.{div-one}
use native.Mathlib.Omega.{arith}
use mathlib.Core.Path.{◌≡◌, refl, sym, ◌∙◌}
use mathlib.Core.Logic.{⊎_elim}
use mathlib.Core.Bool.{Bool, true, false, not, false≢true}
use lib.Dec.{eqb}
use lib.Bits.{bit_and}
use borrow.Author.Tests.{eq-eqb, eqb-true, eqb-false}
use Rattle.model.specs.Sets.{has}
use Rattle.model.specs.Meaning.{meaning}
use Rattle.model.specs.Run.{Update}
use Rattle.model.specs.Claim.{sees, Gains}
use Rattle.model.proofs.Sets.{has_zero, half_has, subset_le, has_and, and_has, has_power, power_is}
use Rattle.model.proofs.Meaning.{Monotone}
use Rattle.model.proofs.Truth.{true_or_false, same_truth}

pub clash : {A : Type 0} {b : Bool} → b ≡ true → b ≡ false → A
clash e f = absurd (false≢true (rw e at (sym f)))

ruleset bits = (arith, eqb-true, eqb-false, eq-eqb)

-- a set is seen where the common part is not empty
not_empty : (a : ℕ) → not (eqb a 0) ≡ true → a ≡ 0 → ⊥
not_empty a h e = let k : eqb a 0 ≡ true = eq-eqb a 0 e in false≢true (rw k at h)

some_seen : (a : ℕ) → (a ≡ 0 → ⊥) → not (eqb a 0) ≡ true
some_seen a h = go (eqb a 0) refl
  where
    go : (b : Bool) → eqb a 0 ≡ b → not b ≡ true
    go true e = absurd (h (eqb-true a 0 e))
    go false e = refl

pub sees_more : (group : ℕ) → Monotone (sees group)
sees_more group x y f h =
    let l : bit_and group x ≤ bit_and group y = subset_le _ _ (λ i k. let (g, m) = and_has group x i k in has_and group y i g (f i m)) in
    some_seen (bit_and group y) (λ e. not_empty (bit_and group x) h (omega arith))

-- a number that is not 0 has a member
member : (n a : ℕ) → a ≤ n → (a ≡ 0 → ⊥) → (i : ℕ) × (has a i ≡ true)
member zero a l h = absurd (h (omega arith))
member (suc n) a l h = ⊎_elim
    (λ e. (0, e))
    (λ e.
    let (i, k) = member n (a / 2) (omega arith) (λ z. h (omega (bits, div-one a))) in
    (suc i, rw (half_has a i) at k))
    (true_or_false (has a 0))

pub sees_someone : (group set : ℕ) → sees group set ≡ true → (i : ℕ) × (has group i ≡ true) × (has set i ≡ true)
sees_someone group set h =
    let (i, k) = member (bit_and group set) (bit_and group set) (omega arith) (not_empty (bit_and group set) h) in
    let (g, m) = and_has group set i k in
    (i, g, m)

pub someone_sees : (group set i : ℕ) → has group i ≡ true → has set i ≡ true → sees group set ≡ true
someone_sees group set i g m =
    let k : has (bit_and group set) i ≡ true = has_and group set i g m in
    some_seen (bit_and group set) (λ e. clash (rw e at k) (has_zero i))

-- F4 for meanings: an update without a gain makes no hidden meaning open
pub no_gain_hides : (group : ℕ) (u : Update) → (Gains group u → ⊥) → (r : ℕ) → sees group (meaning u.after r) ≡ true → sees group (meaning u.before r) ≡ true
no_gain_hides group u none r h =
    let (i, g, m) = sees_someone group (meaning u.after r) h in
    ⊎_elim
    (λ k. someone_sees group (meaning u.before r) i g k)
    (λ k. absurd (none record { role = r; principal = i; in_group = g; not_before = k; now_in = m }))
    (true_or_false (has (meaning u.before r) i))

-- the group of one principal sees the sets in which they are
pub sees_one : (principal set : ℕ) → sees (2 ^ principal) set ≡ has set principal
sees_one principal set = same_truth (sees (2 ^ principal) set) (has set principal)
    (λ t. let (i, g, m) = sees_someone (2 ^ principal) set t in let e : i ≡ principal = power_is principal i g in rw e at m)
    (λ t. someone_sees (2 ^ principal) set principal (has_power principal principal ∙ eq-eqb principal principal refl) t)
