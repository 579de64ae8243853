-- A union of sets, put together one by one, the lowest that is left first.
use mathlib.Core.Path.{◌≡◌}
use mathlib.Core.Logic.{⊎_elim}
use Prim.Native.Nat.{ℕ, ◌≤◌}
use mathlib.Core.Bool.{true, false}
use native.Mathlib.Omega.{arith}
use native.Mathlib.Decide.{ℕ_discrete}
use lib.Bits.{bit_or, or_lt}
use lib.Count.{count_trailing_zeros}
use Rattle.model.specs.Sets.{has, without}
use Rattle.model.proofs.Sets.{in_not, not_in, has_or_l, has_or_r, or_has, has_without, without_has}
use Rattle.shared.specs.Words.{United}
use Rattle.shared.proofs.SetLaws.{fewer, next_without}

module _ (f : ℕ → ℕ) (some : ℕ) where
  pub united_none : (old : ℕ) → United f some some old old
  united_none old = record {
    left = λ j h. h;
    kept = λ k h. h;
    added = λ j k h n. in_not some j h n;
    least = λ H a b k h. a k h;
    below = λ n l g. l;
  }

  module _ (rest old new : ℕ) (u : United f some rest old new) where
    pub united_some : (j : ℕ) → has rest j ≡ true → has some j ≡ true
    united_some j h = u.left j h

    pub united_turn : (j x next : ℕ) → has rest j ≡ true → x ≡ f j → j ≡ count_trailing_zeros 64 rest → next ≡ without rest (count_trailing_zeros 64 rest) → United f some next old (bit_or new x)
    united_turn j x next m e ej en = rw (e, next_without rest j next ej en) (record {
      left = λ i h. u.left i (without_has rest j i h).0;
      kept = λ k h. has_or_l new (f j) k (u.kept k h);
      added = λ i k h n t. go i k h n t (ℕ_discrete i j);
      least = λ H a b k h. ⊎_elim (λ g. u.least H a b k g) (λ g. b j k (u.left j m) g) (or_has new (f j) k h);
      below = λ n l g. or_lt n new (f j) (u.below n l g) (g j (u.left j m));
    })
      where
        go : (i k : ℕ) → has some i ≡ true → has (without rest j) i ≡ false → has (f i) k ≡ true → Dec (i ≡ j) → has (bit_or new (f j)) k ≡ true
        go i k h n t (yes q) = has_or_r new (f j) k (rw q at t)
        go i k h n t (no q) = has_or_l new (f j) k (u.added i k h (not_in rest i (λ y. in_not (without rest j) i (has_without rest j i y q) n)) t)

    pub united_all : rest ≤ 0 → United f some 0 old new
    united_all z = let e : 0 ≡ rest = omega arith in rw e u

pub ruleset unions = (united_none, united_some, united_turn, united_all, fewer)
