-- A law for each return of listed.rt, and the loop: the bits so far, with those of the queries left, are those of all. A listed query broke exactly when a bit was lost.
use mathlib.Core.Path.{◌≡◌, refl, sym, ap, ◌∙◌}
use Prim.Native.Nat.{ℕ, suc, ◌+◌, ◌-◌, ◌*◌, ◌<◌, ◌≤◌}
use mathlib.Core.Logic.{⊎_elim}
use mathlib.Core.List.{List, [], ◌∷◌}
use mathlib.Core.Bool.{Bool, true, false, cond, not, ◌&&◌, ◌||◌, true≢false, false≢true}
use native.Mathlib.Omega.{arith}
use native.Mathlib.Numerals.{add-one}
use lib.Bits.{bit_or, or_zero_l, or_zero_r, or_comm}
use lib.ListN.{get_or}
use Rattle.model.specs.Limits.{list_limit}
use Rattle.model.specs.Bytes.{byte}
use Rattle.model.specs.Sets.{has, within, with}
use Rattle.model.specs.Policy.{roles}
use Rattle.model.specs.Syntax.{Query}
use Rattle.model.specs.Program.{got, read_many, read_query}
use Rattle.model.specs.Atoms.{holds}
use Rattle.model.specs.Run.{broken}
use Rattle.model.proofs.Sets.{has_zero, within_has, has_within, has_with, has_with_same, with_has, or_assoc}
use Rattle.model.proofs.Standing.{many_none, many_more, query_parts}
use Rattle.tracked.specs.Live.{Live}
use Rattle.update.specs.Listed.{held_from, held_bits, HeldAt}
use Rattle.tracked.proofs.AtomLaws.{query_decided}

-- one query noted
module _ (bits w word : ℕ) (h : Bool) where
  pub noted_held : h ≡ true → word ≡ with bits w → word ≡ cond h (with bits w) bits
  noted_held e f = rw (e, f)

  pub noted_not : h ≡ false → bits ≡ cond h (with bits w) bits
  noted_not e = rw e

pub ruleset noteds = (noted_held, noted_not)

-- the queries that are left from position next on, of which the first has number i
pub record Noted (p s : List ℕ) (left next i bits : ℕ) (qs : List Query) (end : ℕ) : Type 0 where
  pub rest : List Query
  pub rest_read : read_many (read_query p (roles s)) left next ≡ got rest end
  pub bits_are : bit_or bits (held_from s i rest) ≡ held_bits s qs

unfoldable pub Noting : List ℕ → ℕ → ℕ → List ℕ → ℕ → ℕ → ℕ → Type 0
Noting p at count atoms bits next i =
    (s : List ℕ) → Live s atoms → (qs : List Query) (end : ℕ) → read_many (read_query p (roles s)) count at ≡ got qs end
    → Noted p s (count - i) next i bits qs end

-- a query joins its bit to those of the queries behind it
held_more : (s : List ℕ) (q : Query) (qs : List Query) (i bits : ℕ)
    → bit_or (cond (holds s q) (with bits i) bits) (held_from s (suc i) qs) ≡ bit_or bits (held_from s i (q ∷ qs))
unfolding held_from
held_more s q qs i bits = go (holds s q)
  where
    go : (b : Bool) → bit_or (cond b (with bits i) bits) (held_from s (suc i) qs) ≡ bit_or bits (cond b (with (held_from s (suc i) qs) i) (held_from s (suc i) qs))
    go true = or_assoc bits _ (held_from s (suc i) qs) ∙ ap (bit_or bits) (or_comm _ (held_from s (suc i) qs))
    go false = refl

module _ (p : List ℕ) (at count : ℕ) (atoms : List ℕ) where
  pub noting_start : Noting p at count atoms 0 (at + 2 * 0) 0
  unfolding Noting
  noting_start s live qs end h =
      let k : count - 0 ≡ count = omega arith in
      let z : at + 2 * 0 ≡ at = omega arith in
      record { rest = qs; rest_read = rw (k, z) h; bits_are = or_zero_l (held_bits s qs) }

  module _ (bits i : ℕ) (inv : Noting p at count atoms bits (at + 2 * i) i) where
    pub noting_more : (w k more : ℕ) (h : Bool) → i < count → count ≤ list_limit → w ≡ i → h ≡ within (get_or atoms (byte p (at + 2 * w + 1)) 0) (get_or atoms (byte p (at + 2 * w)) 0) → k ≡ i
        → more ≡ cond h (with bits k) bits → Noting p at count atoms more (at + 2 * (i + 1)) (i + 1)
    unfolding Noting
    noting_more w k more h some few ew eh ek em s live qs end read =
        let next : ℕ = at + 2 * i in
        let u = inv s live qs end read in
        let v = many_more (read_query p (roles s)) (count - i) next u.rest_read (omega arith) in
        let x = query_parts p (roles s) next v.head_read in
        let less : count - i - 1 ≡ count - (i + 1) = omega arith in
        let first : byte p (at + 2 * w) ≡ byte p next = ap (λ (x : ℕ). byte p (at + 2 * x)) ew in
        let second : byte p (at + 2 * w + 1) ≡ byte p (next + 1) = ap (λ (x : ℕ). byte p (at + 2 * x + 1)) ew in
        let test = query_decided s atoms live p next _ _ h v.head v.mid v.head_read first second eh in
        let word : more ≡ cond h (with bits i) bits = em ∙ ap (λ (x : ℕ). cond h (with bits x) bits) ek in
        let there : at + 2 * (i + 1) ≡ v.mid = omega (arith, x.ends) in
        record {
          rest = v.tail;
          rest_read = rw (there, ← less) v.tail_read;
          bits_are = rw (word, test, add-one i) (held_more s v.head v.tail i bits ∙ rw v.is at u.bits_are);
        }

    pub noting_done : i ≤ count → count ≤ i → HeldAt p at count atoms bits
    unfolding Noting HeldAt held_from
    noting_done l k s live qs end h =
        let u = inv s live qs end h in
        let v = many_none (read_query p (roles s)) (count - i) (at + 2 * i) u.rest_read (omega arith) in
        sym (or_zero_r bits) ∙ rw v.0 at u.bits_are

pub ruleset notings = (noting_start, noting_more, noting_done)

-- numbers are counted from i on
held_above : (s : List ℕ) (qs : List Query) (i j : ℕ) → has (held_from s i qs) j ≡ true → i ≤ j
unfolding held_from
held_above s [] i j h = absurd (true≢false (sym h ∙ has_zero j))
held_above s (q ∷ qs) i j h = go (holds s q) (held_above s qs (suc i) j) h
  where
    go : (b : Bool) → (has (held_from s (suc i) qs) j ≡ true → suc i ≤ j) → has (cond b (with (held_from s (suc i) qs) i) (held_from s (suc i) qs)) j ≡ true → i ≤ j
    go true f g = ⊎_elim (λ e. omega arith) (λ k. omega (arith, f k)) (with_has (held_from s (suc i) qs) i j g)
    go false f g = omega (arith, f g)

-- a number from i on that x has, and y has not
record Lost (x y i : ℕ) : Type 0 where
  number : ℕ
  above : i ≤ number
  was : has x number ≡ true
  gone : has y number ≡ true → ⊥

module _ (s t : List ℕ) where
  -- where no listed query broke every bit is kept
  kept : (qs : List Query) (i : ℕ) → broken qs s t ≡ false → (j : ℕ) → has (held_from s i qs) j ≡ true → has (held_from t i qs) j ≡ true
  unfolding broken held_from
  kept [] i b j h = h
  kept (q ∷ qs) i b j h = go (holds s q) (holds t q) b (λ c. kept qs (suc i) c j) h
    where
      S : ℕ
      S = held_from s (suc i) qs

      T : ℕ
      T = held_from t (suc i) qs

      go : (x y : Bool) → ((x && not y) || broken qs s t) ≡ false → (broken qs s t ≡ false → has S j ≡ true → has T j ≡ true)
          → has (cond x (with S i) S) j ≡ true → has (cond y (with T i) T) j ≡ true
      go true true b f h = ⊎_elim (λ e. rw e (has_with_same T i)) (λ k. has_with T i j (f b k)) (with_has S i j h)
      go true false b f h = absurd (true≢false b)
      go false true b f h = has_with T i j (f b h)
      go false false b f h = f b h

  -- where one did its bit is lost
  lost : (qs : List Query) (i : ℕ) → broken qs s t ≡ true → Lost (held_from s i qs) (held_from t i qs) i
  unfolding broken held_from
  lost [] i b = absurd (false≢true b)
  lost (q ∷ qs) i b = go (holds s q) (holds t q) b (lost qs (suc i))
    where
      S : ℕ
      S = held_from s (suc i) qs

      T : ℕ
      T = held_from t (suc i) qs

      later : (x y : Bool) → Lost S T (suc i) → Lost (cond x (with S i) S) (cond y (with T i) T) i
      later x y l = record { number = l.number; above = omega (arith, l.above); was = had x; gone = λ h. l.gone (still y h) }
        where
          had : (x : Bool) → has (cond x (with S i) S) l.number ≡ true
          had true = has_with S i l.number l.was
          had false = l.was

          still : (y : Bool) → has (cond y (with T i) T) l.number ≡ true → has T l.number ≡ true
          still true h = ⊎_elim (λ e. absurd (omega (arith, l.above))) (λ k. k) (with_has T i l.number h)
          still false h = h

      go : (x y : Bool) → ((x && not y) || broken qs s t) ≡ true → (broken qs s t ≡ true → Lost S T (suc i)) → Lost (cond x (with S i) S) (cond y (with T i) T) i
      go true true b f = later true true (f b)
      go true false b f = record { number = i; above = omega arith; was = has_with_same S i; gone = λ h. omega (arith, held_above t qs (suc i) i h) }
      go false true b f = later false true (f b)
      go false false b f = later false false (f b)

  -- a listed query broke exactly when a bit that was set is not
  pub broken_bits : (qs : List Query) → broken qs s t ≡ not (within (held_bits s qs) (held_bits t qs))
  broken_bits qs = go (broken qs s t) (within (held_bits s qs) (held_bits t qs)) (λ b. has_within _ _ (kept qs 0 b)) (λ b w. let l = lost qs 0 b in l.gone (within_has _ _ l.number w l.was))
    where
      go : (b w : Bool) → (b ≡ false → w ≡ true) → (b ≡ true → w ≡ true → ⊥) → b ≡ not w
      go true true f g = absurd (g refl refl)
      go true false f g = refl
      go false true f g = refl
      go false false f g = absurd (false≢true (f refl))
