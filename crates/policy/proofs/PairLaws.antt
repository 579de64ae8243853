-- Rule 5's pairs: after i rows the marks are those of the first i rows' pairs, so a pair that is marked stands in an earlier row.
use mathlib.Core.Path.{◌≡◌, sym, ap, ◌∙◌}
use mathlib.Core.Logic.{◌⊎◌, inl, inr, ⊎_elim}
use Prim.Native.Nat.{ℕ, ◌+◌, ◌*◌, ◌/◌, ◌%◌, ◌<◌, ◌≤◌}
use mathlib.Core.List.{List}
use mathlib.Core.Bool.{Bool, true, false, not, ◌&&◌, true≢false}
use lib.Dec.{eqb, ltb}
use borrow.Author.Tests.{eq-eqb, ltb-true}
use native.Mathlib.Omega.{arith}
use lib.Bits.{bit_or}
use lib.ListN.{length, get_or, set, replicate, length-set, length-replicate, get_or-replicate, get_or-eq_default}
use lib.Seq.{get_or-set_same, get_or-set_other}
use native.Mathlib.Decide.{dec_lt}
use Rattle.model.specs.Number.{first_below}
use Rattle.model.specs.Sets.{has, with}
use Rattle.model.specs.Policy.{principals, owner, name, AcceptedHead, principal_number, pair_number}
use Rattle.model.proofs.Below.{last_or}
use Rattle.model.proofs.Number.{unless_zero, unless_or, zero_below, one_number}
use Rattle.model.proofs.Sets.{has_zero, has_with_same, has_with, with_has}
use Rattle.model.proofs.Accepted.{zero_pair}
use Rattle.policy.specs.Pairs.{pair, marked, mark, Seen}
use Rattle.shared.specs.Words.{single}
use Rattle.shared.proofs.SetLaws.{single_is}
use Rattle.policy.proofs.RowLaws.{principals_few}
use Rattle.policy.proofs.TakesLaws.{same_or}

-- a number's bit in its word
module _ (t : List ℕ) (c : ℕ) where
  pub marked_is : (b : Bool) → b ≡ has (get_or t (c / 64) 0) (c % 64) → b ≡ marked t c
  unfolding marked
  marked_is b e = e

  pub mark_is : (w : ℕ) → w ≡ single (c % 64) → set t (c / 64) (bit_or (get_or t (c / 64) 0) w) ≡ mark t c
  unfolding mark
  mark_is w e = rw (e, single_is (c % 64) (omega arith))

  pub length_mark : length (mark t c) ≡ length t
  unfolding mark
  length_mark = simp length-set

  -- what is marked stays so, and the number is marked too
  pub mark_keeps : (d : ℕ) → marked t d ≡ true → marked (mark t c) d ≡ true
  unfolding marked mark
  mark_keeps d h = ⊎_elim
      (λ e. rw e (go (dec_lt (c / 64) (length t)) e))
      (λ k. rw (get_or-set_other t (c / 64) (d / 64) (with (get_or t (c / 64) 0) (c % 64)) 0 k) h)
      (same_or (d / 64) (c / 64))
    where
      go : Dec (c / 64 < length t) → d / 64 ≡ c / 64 → has (get_or (set t (c / 64) (with (get_or t (c / 64) 0) (c % 64))) (c / 64) 0) (d % 64) ≡ true
      go (yes l) e = rw (get_or-set_same t (c / 64) (with (get_or t (c / 64) 0) (c % 64)) 0 l) (has_with (get_or t (c / 64) 0) (c % 64) (d % 64) (rw e at h))
      go (no k) e = absurd (true≢false (sym h ∙ rw (get_or-eq_default t 0 (let l : length t ≤ d / 64 = omega arith in l)) (has_zero (d % 64))))

  module _ (room : c / 64 < length t) where
    pub mark_marks : marked (mark t c) c ≡ true
    unfolding marked mark
    mark_marks = rw (get_or-set_same t (c / 64) (with (get_or t (c / 64) 0) (c % 64)) 0 room) (has_with_same (get_or t (c / 64) 0) (c % 64))

    -- and no other number
    pub mark_only : (d : ℕ) → marked (mark t c) d ≡ true → (d ≡ c) ⊎ (marked t d ≡ true)
    unfolding marked mark
    mark_only d h = ⊎_elim
        (λ e. ⊎_elim (λ q. inl (omega arith)) (λ q. inr (rw e q)) (with_has (get_or t (c / 64) 0) (c % 64) (d % 64) (go e h)))
        (λ k. inr (rw (get_or-set_other t (c / 64) (d / 64) (with (get_or t (c / 64) 0) (c % 64)) 0 k) at h))
        (same_or (d / 64) (c / 64))
      where
        go : d / 64 ≡ c / 64 → has (get_or (set t (c / 64) (with (get_or t (c / 64) 0) (c % 64))) (d / 64) 0) (d % 64) ≡ true → has (with (get_or t (c / 64) 0) (c % 64)) (d % 64) ≡ true
        go e g = rw (e, get_or-set_same t (c / 64) (with (get_or t (c / 64) 0) (c % 64)) 0 room) at g

-- before the first row nothing is marked
pub seen_none : (s : List ℕ) (n : ℕ) → 256 * principals s ≤ 64 * n → Seen s (replicate n 0) 0
unfolding marked
seen_none s n room = record {
  room = rw (length-replicate {A = ℕ} n 0) room;
  marks = λ j l. absurd (omega arith);
  marks_of = λ c h. absurd (true≢false (sym h ∙ blank c (dec_lt (c / 64) n)));
}
  where
    blank : (c : ℕ) → Dec (c / 64 < n) → has (get_or (replicate n 0) (c / 64) 0) (c % 64) ≡ false
    blank c (yes l) = rw (get_or-replicate {A = ℕ} n (c / 64) 0 0 l) (has_zero (c % 64))
    blank c (no k) = rw (get_or-eq_default {A = ℕ} (replicate n 0) 0 (let l : length {A = ℕ} (replicate n 0) ≤ c / 64 = omega (arith, length-replicate {A = ℕ} n 0) in l)) (has_zero (c % 64))

-- in few words where there are few principals, in more for all that there may be
pub seen_few : (s : List ℕ) (k : ℕ) → k ≡ principals s → k ≤ 4 → Seen s (replicate 16 0) 0
seen_few s k e l = seen_none s 16 (omega arith)

pub seen_all : (s : List ℕ) → AcceptedHead s → Seen s (replicate 128 0) 0
seen_all s h = let l = principals_few s h in seen_none s 128 (omega arith)

-- rows i and j with the same owner and name, or not
pair_same : (s : List ℕ) (i j : ℕ) → owner s i ≡ owner s j → name s i ≡ name s j → pair_number s i j ≡ 5
unfolding pair_number
pair_same s i j e h = simp (eq-eqb _ _ e, eq-eqb _ _ h)

pair_or : (s : List ℕ) (i j : ℕ) → (pair_number s i j ≡ 0) ⊎ (pair_number s i j ≡ 5)
unfolding pair_number
pair_or s i j = unless_or (not (eqb (owner s i) (owner s j) && eqb (name s i) (name s j))) 5

-- row i with an owner that there is, and its pair c
module _ (s t : List ℕ) (i c : ℕ) (seen : Seen s t i) (below : owner s i < principals s) (e : c ≡ pair s i) (small : name s i < 256) where
  pub pair_room : c < 64 * length t
  pair_room = omega (arith, seen.room)

  pub pair_found : (b : Bool) → b ≡ marked t c → b ≡ true → 5 ≡ first_below (pair_number s i) i
  pair_found b m h =
      let (j, l, n, q) = seen.marks_of c (sym m ∙ h) in
      sym (one_number (pair_number s i) 5 (pair_or s i) i j (λ z. absurd (omega arith)) l
      (pair_same s i j (omega arith) (omega arith)))

  pub pair_new : (b : Bool) → b ≡ marked t c → b ≡ false → 0 ≡ first_below (pair_number s i) i
  pair_new b m h = sym (zero_below (pair_number s i) i (λ j l. zero_pair s i j (λ o n.
      let q : pair s j ≡ c = omega arith in
      true≢false (sym (rw q at (seen.marks j l)) ∙ sym m ∙ h))))

  pub seen_next : (u : List ℕ) → u ≡ mark t c → Seen s u (i + 1)
  seen_next u f = rw f record {
    room = rw length_mark seen.room;
    marks = λ j l. ⊎_elim (λ q. let g : pair s j ≡ c = ap (λ (x : ℕ). pair s x) q ∙ sym e in rw g (mark_marks t c inside)) (λ k. mark_keeps t c (pair s j) (seen.marks j k)) (last_or i j (omega arith));
    marks_of = λ d h. ⊎_elim (λ q. (i, omega arith, small, omega arith)) (λ k. let (j, l, n, q) = seen.marks_of d k in (j, omega arith, n, q)) (mark_only t c inside d h);
  }
    where
      inside : c / 64 < length t
      inside = omega (arith, seen.room)

pub ruleset pair_laws = (pair_room, pair_found, pair_new, seen_next)

-- a row whose principals there are has an owner that there is
pub owner_fits : (s : List ℕ) (i : ℕ) → 0 ≡ principal_number s i → owner s i < principals s
unfolding principal_number
owner_fits s i e = ltb-true (owner s i) (principals s) (unless_zero (ltb (owner s i) (principals s)) _ _ (sym e)).0
