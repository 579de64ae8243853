-- The roles that a row takes are looked at one after the other, lowest first: what is no longer left is right.
use mathlib.Core.Path.{◌≡◌, refl, sym, ◌∙◌}
use mathlib.Core.Logic.{◌⊎◌, inl, inr, ⊎_elim}
use Prim.Native.Nat.{ℕ, ◌^◌, ◌<◌, ◌≤◌}
use mathlib.Core.List.{List}
use mathlib.Core.Bool.{Bool, true, false, true≢false, cond}
use native.Mathlib.Omega.{arith}
use native.Mathlib.Decide.{ℕ_discrete}
use lib.Pow.{pow_pos}
use Rattle.model.specs.Number.{first_below}
use Rattle.model.specs.Sets.{has, without}
use Rattle.model.specs.Policy.{roles, HasRow, takes, may_take, AcceptedHead, taken_number}
use Rattle.model.proofs.Rows.{row_inside}
use Rattle.model.proofs.Number.{unless_or, zero_below, one_number}
use Rattle.model.proofs.Sets.{has_zero, has_below, has_without, without_has}
use Rattle.shared.proofs.SetLaws.{held_power, next_without}

-- two numbers are the same, or not
pub same_or : (x j : ℕ) → (x ≡ j) ⊎ (x ≡ j → ⊥)
same_or x j = go (ℕ_discrete x j)
  where
    go : Dec (x ≡ j) → (x ≡ j) ⊎ (x ≡ j → ⊥)
    go (yes e) = inl e
    go (no k) = inr k

-- 6 of row i: one role that it takes
module _ (s : List ℕ) (i j : ℕ) (b : Bool) (g : has (takes s i) j ≡ true) (e : b ≡ may_take s i j) where
  pub taken_right : b ≡ true → 0 ≡ taken_number s i j
  unfolding taken_number
  taken_right h = simp (g, sym e ∙ h)

  pub taken_wrong : b ≡ false → 6 ≡ taken_number s i j
  unfolding taken_number
  taken_wrong h = simp (g, sym e ∙ h)

pub ruleset taken_laws = (taken_right, taken_wrong)

-- the roles that row i takes, one after the other, lowest first: those no longer in rest are right
unfoldable pub Passed : List ℕ → ℕ → ℕ → Type 0
Passed s i rest = (j : ℕ) → has rest j ≡ false → taken_number s i j ≡ 0

-- what is left is part of what the row takes
unfoldable pub Left : List ℕ → ℕ → ℕ → Type 0
Left s i rest = (j : ℕ) → has rest j ≡ true → has (takes s i) j ≡ true

taken_none : (s : List ℕ) (i j : ℕ) → has (takes s i) j ≡ false → taken_number s i j ≡ 0
unfolding taken_number
taken_none s i j h = simp h

taken_six : (s : List ℕ) (i j : ℕ) → (taken_number s i j ≡ 0) ⊎ (taken_number s i j ≡ 6)
unfolding taken_number
taken_six s i j = unless_or (cond (has (takes s i) j) (may_take s i j) true) 6

module _ (s : List ℕ) (i n : ℕ) (fits : takes s i < 2 ^ n) where
  pub passed_start : (row : ℕ) → row ≡ takes s i → Passed s i row
  unfolding Passed
  passed_start row e j h = taken_none s i j (rw e at h)

  pub left_start : (row : ℕ) → row ≡ takes s i → Left s i row
  unfolding Left
  left_start row e j h = rw e at h

  module _ (rest j : ℕ) (m : has rest j ≡ true) where
    pub left_takes : Left s i rest → has (takes s i) j ≡ true
    unfolding Left
    left_takes l = l j m

    pub left_row : Left s i rest → AcceptedHead s → n ≡ roles s → HasRow s j
    unfolding Left
    left_row l h e = row_inside s h j (rw e at (has_below n (takes s i) j fits (l j m)))

    pub passed_next : (k next : ℕ) → Passed s i rest → k ≡ taken_number s i j → k ≡ 0 → next ≡ without rest j → Passed s i next
    unfolding Passed
    passed_next k next f e z w x h = go (has rest x) refl
      where
        go : (b : Bool) → has rest x ≡ b → taken_number s i x ≡ 0
        go false g = f x g
        go true g = ⊎_elim (λ q. rw q (sym e ∙ z)) (λ q. absurd (true≢false (sym (has_without rest j x g q) ∙ rw w at h))) (same_or x j)

    pub left_next : (next : ℕ) → Left s i rest → next ≡ without rest j → Left s i next
    unfolding Left
    left_next next l w x h = l x (without_has rest j x (rw w at h)).0

    pub taken_found : (k : ℕ) → Left s i rest → k ≡ taken_number s i j → (k ≡ 0 → ⊥) → k ≡ first_below (taken_number s i) n
    unfolding Left
    taken_found k l e z = sym (one_number (taken_number s i) k (λ x. ⊎_elim inl (λ a. inr (a ∙ sym six)) (taken_six s i x)) n j z (has_below n (takes s i) j fits (l j m)) (sym e))
      where
        six : k ≡ 6
        six = ⊎_elim (λ a. absurd (z (e ∙ a))) (λ a. e ∙ a) (taken_six s i j)

  pub taken_done : (rest : ℕ) → Passed s i rest → rest ≤ 0 → 0 ≡ first_below (taken_number s i) n
  unfolding Passed
  taken_done rest f h = sym (zero_below (taken_number s i) n (λ x l. f x (let z : rest ≡ 0 = omega arith in rw z (has_zero x))))

-- a set loses a number that is in it
pub smaller : (rest j next : ℕ) → has rest j ≡ true → next ≡ without rest j → next < rest
smaller rest j next m w = rw (w, m) (omega (arith, held_power rest j m, pow_pos j))

pub ruleset takes_laws = (passed_start, left_start, left_takes, left_row, passed_next, left_next, taken_found, taken_done, smaller, next_without)
