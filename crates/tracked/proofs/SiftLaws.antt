-- A law for each return of changed, union_of, clear and sift, and for the loops: who is not sifted out has the words that they
-- had when the sets were last right.
use mathlib.Core.Path.{◌≡◌, refl, sym, ap, ◌∙◌}
use Prim.Native.Nat.{ℕ, ◌+◌, ◌*◌, ◌^◌, ◌<◌, ◌≤◌}
use mathlib.Core.Logic.{⊎_elim}
use mathlib.Core.List.{List}
use mathlib.Core.Bool.{Bool, true, false, not, true≢false}
use native.Mathlib.Omega.{arith}
use native.Mathlib.Decide.{ℕ_discrete}
use mir.Val.{Fits}
use mir.Syntax.{w64}
use lib.Dec.{eqb}
use lib.Bits.{bit_or}
use lib.Count.{count_trailing_zeros}
use lib.ListN.{length, get_or, set, length-set}
use lib.Seq.{get_or-set_same, get_or-set_other}
use borrow.Author.Tests.{eqb-true}
use Rattle.model.specs.Limits.{role_limit}
use Rattle.model.specs.Sets.{has, without}
use Rattle.model.proofs.Sets.{has_zero, not_in, in_not, in_none, has_or_l, has_or_r, or_has, has_below, has_without, without_has}
use Rattle.model.proofs.Truth.{true_or_false}
use Rattle.shared.proofs.SetLaws.{next_without, fewer}
use Rattle.shared.specs.Words.{United}
use Rattle.tracked.specs.Index.{holders_at, moved_at, known_at, above_at, rewired_at, before_at, index_words, current, touched, before, SetInside, Few, placed, Changed, Cleared, Sifted}
use Rattle.tracked.proofs.IndexLaws.{placed_same, placed_other}
use Rattle.tracked.proofs.KeepLaws.{mark_member, mark_taken, touched_by, before_kept, before_now}

-- what is left of a set without its lowest number
module _ (rest j next : ℕ) (ej : j ≡ count_trailing_zeros 64 rest) (en : next ≡ without rest (count_trailing_zeros 64 rest)) where
  is : next ≡ without rest j
  is = next_without rest j next ej en

  left_was : (l : ℕ) → has next l ≡ true → has rest l ≡ true
  left_was l p = (without_has rest j l (rw is at p)).0

  done_was : (l : ℕ) → has next l ≡ false → (l ≡ j → ⊥) → has rest l ≡ false
  done_was l n d = not_in rest l (λ y. in_not next l (rw is (has_without rest j l y d)) n)

-- those of the set that are not in `rest` are compared
pub record Comparing (from set rest : ℕ) (w : List ℕ) (found : ℕ) : Type 0 where
  pub in_rest : (j : ℕ) → has rest j ≡ true → has set j ≡ true
  pub inside : (j : ℕ) → has found j ≡ true → has set j ≡ true
  pub same : (j : ℕ) → has set j ≡ true → has rest j ≡ false → has found j ≡ false → get_or w (before_at + (from + j)) 0 ≡ get_or w (from + j) 0

pub comparing_start : (from set : ℕ) (w : List ℕ) → Comparing from set set w 0
comparing_start from set w = record { in_rest = λ j h. h; inside = λ j h. in_none j h; same = λ j h n z. in_not set j h n }

module _ (from all rest : ℕ) (w : List ℕ) (found : ℕ) (h : Comparing from all rest w found) where
  module _ (inside : SetInside from all) (long : length w ≡ index_words) (j : ℕ) (small : j < 64) (m : has rest j ≡ true) where
    word_few : from + j < moved_at
    unfolding SetInside
    word_few = inside j small (h.in_rest j m)

    pub compared_inside : from + j < length w
    compared_inside = omega (arith, word_few)

    pub compared_fits : Fits w64 (from + j)
    compared_fits = record { fits = omega (arith, word_few) }

    pub compared_wide : Fits w64 ((from + j) * 8)
    compared_wide = record { fits = omega (arith, word_few) }

    pub kept_inside : before_at + (from + j) < length w
    kept_inside = omega (arith, word_few)

    pub kept_fits : Fits w64 (before_at + (from + j))
    kept_fits = record { fits = omega (arith, word_few) }

    pub kept_wide : Fits w64 ((before_at + (from + j)) * 8)
    kept_wide = record { fits = omega (arith, word_few) }

  pub comparing_more : (j next more : ℕ) → j ≡ count_trailing_zeros 64 rest → has rest j ≡ true → more ≡ placed (not (eqb (get_or w (from + j) 0) (get_or w (before_at + (from + j)) 0))) found j
      → next ≡ without rest (count_trailing_zeros 64 rest) → Comparing from all next w more
  comparing_more j next more ej m em en = record {
    in_rest = λ l p. h.in_rest l (left_was rest j next ej en l p);
    inside = λ l p. inside l p (ℕ_discrete l j);
    same = λ l p n z. same l p n z (ℕ_discrete l j);
  }
    where
      differ : Bool
      differ = not (eqb (get_or w (from + j) 0) (get_or w (before_at + (from + j)) 0))

      of_other : (l : ℕ) → (l ≡ j → ⊥) → has more l ≡ has found l
      of_other l d = rw em (placed_other found j differ l d)

      inside : (l : ℕ) → has more l ≡ true → Dec (l ≡ j) → has all l ≡ true
      inside l p (yes e) = rw e (h.in_rest j m)
      inside l p (no d) = h.inside l (sym (of_other l d) ∙ p)

      -- where the test says that they do not differ they are the same
      alike : (a b : ℕ) → not (eqb a b) ≡ false → b ≡ a
      alike a b e = ⊎_elim (λ y. sym (eqb-true a b y)) (λ n. absurd (true≢false (rw n at e))) (true_or_false (eqb a b))

      same : (l : ℕ) → has all l ≡ true → has next l ≡ false → has more l ≡ false → Dec (l ≡ j) → get_or w (before_at + (from + l)) 0 ≡ get_or w (from + l) 0
      same l p n z (yes e) = rw e (alike (get_or w (from + j) 0) (get_or w (before_at + (from + j)) 0) (sym (placed_same found j differ) ∙ sym (ap (λ (y : ℕ). has y j) em) ∙ rw e at z))
      same l p n z (no d) = h.same l p (done_was rest j next ej en l n d) (sym (of_other l d) ∙ z)

  pub comparing_done : rest ≤ 0 → Changed from all w found
  comparing_done z = let e : rest ≡ 0 = omega arith in record { inside = h.inside; same = λ j p n. h.same j p (rw e (has_zero j)) n }

pub ruleset comparings = (fewer, comparing_start, compared_inside, compared_fits, compared_wide, kept_inside, kept_fits, kept_wide, comparing_more, comparing_done)

-- nothing is touched any more
module _ (rewired : ℕ) (w : List ℕ) (long : length w ≡ index_words) where
  mid : List ℕ
  mid = set (set w moved_at 0) rewired_at 0

  mid_long : length mid ≡ length w
  unfolding mid
  mid_long = length-set (set w moved_at 0) rewired_at 0 ∙ length-set w moved_at 0

  elsewhere : (m : ℕ) → (m ≡ moved_at → ⊥) → (m ≡ rewired_at → ⊥) → get_or mid m 0 ≡ get_or w m 0
  unfolding mid
  elsewhere m n o = get_or-set_other (set w moved_at 0) rewired_at m 0 0 o ∙ get_or-set_other w moved_at m 0 0 n

  moved_none : get_or mid moved_at 0 ≡ 0
  unfolding mid
  moved_none = get_or-set_other (set w moved_at 0) rewired_at moved_at 0 0 (λ q. omega arith) ∙ get_or-set_same w moved_at 0 0 (omega arith)

  rewired_none : get_or mid rewired_at 0 ≡ 0
  unfolding mid
  rewired_none = get_or-set_same (set w moved_at 0) rewired_at 0 0 (rw length-set (omega arith))

  pub cleared_inside : rewired_at < length (set w moved_at 0)
  cleared_inside = rw length-set (omega arith)

  pub cleared_known : rewired ≡ 0 → Cleared rewired w (set (set w moved_at 0) rewired_at 0)
  unfolding mid
  cleared_known z = record {
    long = mid_long;
    same = λ k l. elsewhere k (λ q. omega arith) (λ q. omega arith);
    untouched = record { none_moved = moved_none; none_rewired = rewired_none };
    known = λ j m. (sym (ap (λ (y : ℕ). has y j) (elsewhere known_at (λ q. omega arith) (λ q. omega arith))) ∙ m, z);
    above = λ j l. elsewhere (above_at + j) (λ q. omega arith) (λ q. omega arith);
  }

  pub known_inside : known_at < length (set (set w moved_at 0) rewired_at 0)
  known_inside = rw (length-set, length-set) (omega arith)

  pub cleared_all : Cleared rewired w (set (set (set w moved_at 0) rewired_at 0) known_at 0)
  unfolding mid
  cleared_all = record {
    long = length-set mid known_at 0 ∙ mid_long;
    same = λ k l. kept k (λ q. omega arith) ∙ elsewhere k (λ q. omega arith) (λ q. omega arith);
    untouched = record { none_moved = kept moved_at (λ q. omega arith) ∙ moved_none; none_rewired = kept rewired_at (λ q. omega arith) ∙ rewired_none };
    known = λ j m. in_none j (rw (get_or-set_same mid known_at 0 0 known_inside) at m);
    above = λ j l. kept (above_at + j) (λ q. omega arith) ∙ elsewhere (above_at + j) (λ q. omega arith) (λ q. omega arith);
  }
    where
      kept : (m : ℕ) → (m ≡ known_at → ⊥) → get_or (set mid known_at 0) m 0 ≡ get_or mid m 0
      kept m n = get_or-set_other mid known_at m 0 0 n

pub ruleset clearings = (cleared_inside, cleared_known, known_inside, cleared_all)

pub holders_inside : (w : List ℕ) (x : ℕ) → x ≡ get_or w moved_at 0 → Few (get_or w moved_at 0) → SetInside holders_at x
unfolding Few SetInside
holders_inside w x e few j l m = omega (arith, few j (rw e at m))

pub takers_inside : (set : ℕ) → SetInside 0 set
unfolding SetInside
takers_inside set j l m = omega arith

-- a word that is not among those that changed is as it was
module _ (w : List ℕ) (k x from set r : ℕ) (g : Changed from set w r) (e : k ≡ from + x) (is-mark : touched w k ≡ has set x) where
  unchanged : has r x ≡ false → before w k ≡ get_or w k 0
  unchanged n = ⊎_elim (λ y. before_kept w k (is-mark ∙ y) ∙ rw e (g.same x y n)) (λ z. before_now w k (is-mark ∙ z)) (true_or_false (has set x))

module _ (atoms w u : List ℕ) (x y moved rewired all : ℕ) (ex : x ≡ get_or w moved_at 0) (ey : y ≡ get_or w rewired_at 0) (few : Few (get_or w moved_at 0))
    (f : Changed holders_at x w moved) (g : Changed 0 y w rewired) (h : Cleared rewired w u) (a : United (current atoms) rewired 0 0 all) (small : all < 2 ^ 32) where
  taker_same : (k : ℕ) → k < role_limit → has rewired k ≡ false → before w k ≡ get_or w k 0
  taker_same k l n =
      let z : k ≡ 0 + k = omega arith in
      unchanged w k k 0 y rewired g z (touched_by k rewired_at k (mark_taken k l) w ∙ rw ey refl) n

  not_left : (p : ℕ) → has (bit_or moved all) p ≡ false → has moved p ≡ false
  not_left p n = not_in moved p (λ m. in_not (bit_or moved all) p (has_or_l moved all p m) n)

  -- all, wider as b
  pub sifted : (b : ℕ) → b ≡ all → Sifted atoms w u (bit_or moved b)
  unfolding Few
  sifted b e = rw e (record {
    long = h.long;
    same = h.same;
    untouched = h.untouched;
    known = λ j m. let (b, z) = h.known j m in (b, λ k l. taker_same k l (rw z (has_zero k)));
    above = h.above;
    few = λ p m. ⊎_elim (λ b. few p (rw ex at (f.inside p b))) (λ b. has_below 32 all p small b) (or_has moved all p m);
    holders = λ p l n. unchanged w (holders_at + p) p holders_at x moved f refl (touched_by (holders_at + p) moved_at p (mark_member p l) w ∙ rw ex refl) (not_left p n);
    takers = λ p k l m n. taker_same k l (not_in rewired k (λ b. in_not (bit_or moved all) p (has_or_r moved all p (a.added k p b (has_zero k) m)) n));
  })

pub ruleset siftings = (holders_inside, takers_inside, sifted)
