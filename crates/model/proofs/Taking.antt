-- What it says that a role may take in another. Of the model's laws only these look into `may_take`.
use Prim.Native.Nat.{ℕ}
use mathlib.Core.Path.{◌≡◌, ◌∙◌}
use mathlib.Core.List.{List}
use mathlib.Core.Bool.{true}
use lib.Dec.{eqb}
use borrow.Author.Tests.{eqb-true, eq-eqb}
use Rattle.model.specs.Sets.{has}
use Rattle.model.specs.Policy.{viewers, trusters, Side, reading, trust, watchers, may_take}
use Rattle.model.proofs.Truth.{both, and_both}

module _ (s : List ℕ) (i j : ℕ) where
  taken_same : may_take s i j ≡ true → (side : Side) → watchers side s i ≡ watchers side s j
  unfolding watchers may_take
  taken_same h reading = eqb-true (viewers s i) (viewers s j) (both (eqb (viewers s i) (viewers s j)) _ h).0
  taken_same h trust = eqb-true (trusters s i) (trusters s j) (both (eqb (viewers s i) (viewers s j)) _ h).1

  same_taken : ((side : Side) → watchers side s i ≡ watchers side s j) → may_take s i j ≡ true
  unfolding watchers may_take
  same_taken e = and_both _ _ (eq-eqb (viewers s i) (viewers s j) (e reading)) (eq-eqb (trusters s i) (trusters s j) (e trust))

  module _ (side : Side) (h : may_take s i j ≡ true) (p : ℕ) where
    -- whoever watches a role watches those that it may take in
    pub watches_taken : has (watchers side s i) p ≡ true → has (watchers side s j) p ≡ true
    watches_taken w = rw (taken_same h side) at w

    -- and whoever watches these watches it: only F1 rests on this
    pub watches_taking : has (watchers side s j) p ≡ true → has (watchers side s i) p ≡ true
    watches_taking w = rw (taken_same h side) w

-- what a role may take in may take in no more than the role itself may
pub may_take_trans : (s : List ℕ) (i j k : ℕ) → may_take s i j ≡ true → may_take s j k ≡ true → may_take s i k ≡ true
may_take_trans s i j k h g = same_taken s i k (λ side. taken_same s i j h side ∙ taken_same s j k g side)

-- who watches decides it
pub may_take_same : (a b : List ℕ) (i j : ℕ) → ((side : Side) → watchers side a i ≡ watchers side b i) → ((side : Side) → watchers side a j ≡ watchers side b j)
    → may_take a i j ≡ may_take b i j
unfolding watchers may_take
may_take_same a b i j e f = rw (e reading, f reading, e trust, f trust)
