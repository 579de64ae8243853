-- A law for each return and each turn of memory.rt: what was written has its values, what comes behind is as it was.
use Prim.Native.Nat.{ℕ, zero, suc, ◌+◌, ◌*◌, ◌<◌, ◌≤◌}
use native.Mathlib.Omega.{arith}
use native.Mathlib.Numerals.{add-one}
use mathlib.Core.Path.{◌≡◌, refl, sym, ap, ◌∙◌}
use mathlib.Core.List.{List, [], ◌∷◌, ◌++◌}
use mir.Val.{Fits}
use mir.Syntax.{w8, w32}
use lib.ListN.{length, get_or, set, take, length-set}
use lib.Seq.{get_or-set_other, take-suc-set}
use Rattle.model.specs.Meaning.{column}
use Rattle.model.specs.Value.{value_at}
use Rattle.model.specs.Bytes.{word}
use Rattle.model.specs.Memory.{memory_of}
use Rattle.model.proofs.Memory.{stored, stored_start, stored_more, stored_first, memory_words}
use Rattle.turn.specs.Memory.{Kept}

-- the first n words are given by their places, the others are as they were
pub record Filled (f : ℕ → ℕ) (n : ℕ) (old new : List ℕ) : Type 0 where
  pub same_length : length new ≡ length old
  pub front : take n new ≡ column f n
  pub same : (i : ℕ) → n ≤ i → get_or new i 0 ≡ get_or old i 0

pub filled_none : (f : ℕ → ℕ) (w : List ℕ) → Filled f 0 w w
unfolding column
filled_none f w = record { same_length = refl; front = refl; same = λ i l. refl }

pub filled_more : (f : ℕ → ℕ) (i n x : ℕ) (w u : List ℕ) → Filled f i w u → i < n → n ≤ length w → x ≡ f i → Filled f (i + 1) w (set u i x)
unfolding column
filled_more f i n x w u h k l e =
    let m = h.same_length in
    record {
      same_length = length-set u i x ∙ m;
      front = rw (add-one i, e) (take-suc-set u i (f i) (omega arith) ∙ ap (λ (y : List ℕ). y ++ (f i ∷ [])) h.front);
      same = λ j a. get_or-set_other u i j x 0 (λ q. omega arith) ∙ h.same j (omega arith);
    }

module _ (f : ℕ → ℕ) (w u : List ℕ) (i n : ℕ) (h : Filled f i w u) (a : i ≤ n) (b : n ≤ i) where
  pub filled_kept : Kept n w u
  filled_kept = record { same_length = h.same_length; same = λ j l. h.same j (omega arith) }

  filled_front : take n u ≡ column f n
  filled_front = let k : i ≡ n = omega arith in rw k at h.front

pub filled_length : (f : ℕ → ℕ) (i n : ℕ) (w u : List ℕ) → Filled f i w u → i < n → n ≤ length w → i < length u
filled_length f i n w u h k l = let m = h.same_length in omega arith

-- a memory's values
pub load_value : (m : List ℕ) (x v : ℕ) → v ≡ word m (4 * x) 4 → v ≡ value_at m x
unfolding value_at
load_value m x v e = e

pub load_inside : (m : List ℕ) (x n : ℕ) → length m ≡ 4 * n → x < n → 4 * x + 4 ≤ length m
load_inside m x n e l = omega arith

pub load_done : (m w u : List ℕ) (i n : ℕ) → Filled (value_at m) i w u → i ≤ n → n ≤ i → length m ≡ 4 * n → ((k : ℕ) → Fits w8 (get_or m k 0)) → memory_of (take n u) ≡ m
load_done m w u i n h a b e low = rw (filled_front (value_at m) w u i n h a b) (memory_words m n e (λ j l. let f = low j in omega arith))

pub ruleset loads = (filled_none, filled_more, filled_kept, filled_length, load_value, load_inside, load_done)

-- the bytes of another buffer
column_take : (w : List ℕ) (n : ℕ) → n ≤ length w → take n w ≡ column (λ i. get_or w i 0) n
unfolding column
column_take w zero l = refl
column_take w (suc n) l = take_suc w n (omega arith) ∙ ap (λ (y : List ℕ). y ++ (get_or w n 0 ∷ [])) (column_take w n (omega arith))
  where
    take_suc : (w : List ℕ) (n : ℕ) → n < length w → take (suc n) w ≡ take n w ++ (get_or w n 0 ∷ [])
    take_suc [] n l = absurd (omega arith)
    take_suc (x ∷ w) zero l = refl
    take_suc (x ∷ w) (suc n) l = ap (λ (y : List ℕ). x ∷ y) (take_suc w n (omega arith))

pub copy_done : (from w u : List ℕ) (i n : ℕ) → Filled (λ i. get_or from i 0) i w u → i ≤ n → n ≤ i → n ≤ length from → take n u ≡ take n from
copy_done from w u i n h a b l = filled_front (λ i. get_or from i 0) w u i n h a b ∙ sym (column_take from n l)

take_all : (w : List ℕ) → take (length w) w ≡ w
take_all [] = refl
take_all (x ∷ w) = ap (λ (y : List ℕ). x ∷ y) (take_all w)

-- all of them
pub copy_all : (from w u : List ℕ) (i : ℕ) → Filled (λ i. get_or from i 0) i w u → i ≤ length w → length w ≤ i → length from ≡ length w → u ≡ from
copy_all from w u i h a b e =
    let m = h.same_length in
    let l : i ≡ length u = omega arith in
    let k : i ≡ length from = omega arith in
    let x : take i u ≡ u = rw l (take_all u) in
    let y : take i from ≡ from = rw k (take_all from) in
    sym x ∙ copy_done from w u i i h (omega arith) (omega arith) (omega arith) ∙ y

pub copy_inside : (f : ℕ → ℕ) (from w u : List ℕ) (i : ℕ) → Filled f i w u → i < length u → length from ≡ length w → i < length from
copy_inside f from w u i h l e = let m = h.same_length in omega arith

pub copy_more : (f : ℕ → ℕ) (i x : ℕ) (w u : List ℕ) → Filled f i w u → i < length u → x ≡ f i → Filled f (i + 1) w (set u i x)
copy_more f i x w u h l e = let m = h.same_length in let k : length w ≤ length w = omega arith in filled_more f i (length w) x w u h (omega arith) k e

pub ruleset copies = (copy_all, copy_inside, copy_more, filled_none)

-- the values as a memory's bytes
pub store_done : (w to u : List ℕ) (i n : ℕ) → u ≡ stored w to i → i ≤ n → n ≤ i → n ≤ length w → length to ≡ 4 * n → ((k : ℕ) → Fits w32 (get_or w k 0)) → u ≡ memory_of (take n w)
store_done w to u i n e a b l h low = let k : i ≡ n = omega arith in e ∙ rw k (stored_first w to n l h (λ j m. let f = low j in omega arith))

pub ruleset stores = (stored_start, stored_more, store_done, load_inside)
