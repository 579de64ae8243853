-- A memory by its values: four bytes at the front move every later value by one place, so each law goes by the values from the first on.
use Prim.Native.Nat.{ℕ, zero, suc, ◌+◌, ◌*◌, ◌/◌, ◌%◌, ◌^◌, ◌<◌, ◌≤◌}
use native.Mathlib.Omega.{arith}
use mathlib.Core.Path.{◌≡◌, refl, sym, ◌∙◌, ap}
use mathlib.Core.List.{List, [], ◌∷◌, head-eq_of_cons-eq, tail-eq_of_cons-eq}
use lib.ListN.{length, get_or, set, take}
use lib.Seq.{length-take-le, take-set-lt, get_or-take, ext_get_or}
use Rattle.model.specs.Bytes.{byte, word, put}
use Rattle.model.specs.Meaning.{column}
use Rattle.model.specs.Value.{value_at, set_value}
use Rattle.model.specs.Memory.{memory_of}
use Rattle.model.specs.Machine.{restored}
use Rattle.model.proofs.Bytes.{length_put}
use Rattle.model.proofs.Least.{column_length, column_at}

-- every number of a list is below a top: bytes below 256, values below 2^32
abbrev pub AllBelow : ℕ → List ℕ → Type 0
AllBelow top s = (i : ℕ) → i < length s → get_or s i 0 < top

-- behind four bytes: what stood at a value's place, and what is put there, is one place on
module _ (a b c d : ℕ) (s : List ℕ) (x : ℕ) where
  byte_behind : (k : ℕ) → byte (a ∷ b ∷ c ∷ d ∷ s) (4 * suc x + k) ≡ byte s (4 * x + k)
  byte_behind k = let e : 4 * suc x + k ≡ suc (suc (suc (suc (4 * x + k)))) = omega arith in rw e

  word_behind : (n : ℕ) → word (a ∷ b ∷ c ∷ d ∷ s) (4 * suc x) n ≡ word s (4 * x) n
  unfolding word
  word_behind zero = refl
  word_behind (suc n) = rw (word_behind n, byte_behind n)

  put_behind : (n v : ℕ) → put (a ∷ b ∷ c ∷ d ∷ s) (4 * suc x) n v ≡ a ∷ b ∷ c ∷ d ∷ put s (4 * x) n v
  unfolding put
  put_behind zero v = refl
  put_behind (suc n) v = let e : 4 * suc x + n ≡ suc (suc (suc (suc (4 * x + n)))) = omega arith in rw (put_behind n v, e)

-- four bytes at the front: read, and put
word_front : (a b c d : ℕ) (s : List ℕ) → word (a ∷ b ∷ c ∷ d ∷ s) 0 4 ≡ a + b * 256 + c * 65536 + d * 16777216
unfolding word
word_front a b c d s = omega arith

put_front : (a b c d v : ℕ) (s : List ℕ) → v < 2 ^ 32
    → put (a ∷ b ∷ c ∷ d ∷ s) 0 4 v ≡ v % 256 ∷ v / 256 % 256 ∷ v / 65536 % 256 ∷ v / 16777216 ∷ s
unfolding put
put_front a b c d v s l =
    let first : v / 1 % 256 ≡ v % 256 = omega arith in
    let last : v / 16777216 % 256 ≡ v / 16777216 = omega arith in
    rw (first, last)

-- the value at a place is the one that stands there
pub memory_value : (vs : List ℕ) (x : ℕ) → x < length vs → value_at (memory_of vs) x ≡ get_or vs x 0
unfolding memory_of value_at
memory_value [] x l = absurd (omega arith)
memory_value (v ∷ vs) zero l = word_front _ _ _ _ (memory_of vs) ∙ omega arith
memory_value (v ∷ vs) (suc x) l = word_behind _ _ _ _ (memory_of vs) x 4 ∙ memory_value vs x (omega arith)

-- to set a value's bytes is to set the value
pub memory_set : (vs : List ℕ) (x v : ℕ) → x < length vs → v < 2 ^ 32 → set_value (memory_of vs) x v ≡ memory_of (set vs x v)
unfolding memory_of set_value
memory_set [] x v l h = absurd (omega arith)
memory_set (u ∷ vs) zero v l h = put_front _ _ _ _ v (memory_of vs) h
memory_set (u ∷ vs) (suc x) v l h = put_behind _ _ _ _ (memory_of vs) x 4 v ∙ rw (memory_set vs x v (omega arith) h)

-- bytes that give the values are their bytes
pub memory_is : (vs m : List ℕ) → length m ≡ 4 * length vs → AllBelow 256 m → ((x : ℕ) → x < length vs → get_or vs x 0 ≡ value_at m x) → memory_of vs ≡ m
unfolding memory_of value_at
memory_is [] [] e low same = refl
memory_is [] (a ∷ m) e low same = absurd (omega arith)
memory_is (v ∷ vs) [] e low same = absurd (omega arith)
memory_is (v ∷ vs) (a ∷ []) e low same = absurd (omega arith)
memory_is (v ∷ vs) (a ∷ b ∷ []) e low same = absurd (omega arith)
memory_is (v ∷ vs) (a ∷ b ∷ c ∷ []) e low same = absurd (omega arith)
memory_is (v ∷ vs) (a ∷ b ∷ c ∷ d ∷ m) e low same =
    let q : v ≡ a + b * 256 + c * 65536 + d * 16777216 = same 0 (omega arith) ∙ word_front a b c d m in
    let la : a < 256 = low 0 (omega arith) in
    let lb : b < 256 = low 1 (omega arith) in
    let lc : c < 256 = low 2 (omega arith) in
    let ea : v % 256 ≡ a = omega arith in
    let qb : v / 256 ≡ b + c * 256 + d * 65536 = omega arith in
    let qc : v / 65536 ≡ c + d * 256 = omega arith in
    let eb : v / 256 % 256 ≡ b = rw qb (omega arith) in
    let ec : v / 65536 % 256 ≡ c = rw qc (omega arith) in
    let ed : v / 16777216 ≡ d = omega arith in
    let rest : memory_of vs ≡ m = memory_is vs m (omega arith) (λ i l. low (suc (suc (suc (suc i)))) (omega arith))
    (λ x l. same (suc x) (omega arith) ∙ word_behind a b c d m x 4) in
    rw (ea, eb, ec, ed, rest)

-- a memory's own values give its bytes
pub memory_words : (m : List ℕ) (n : ℕ) → length m ≡ 4 * n → AllBelow 256 m → memory_of (column (value_at m) n) ≡ m
memory_words m n e low =
    let k : length (column (value_at m) n) ≡ n = column_length (value_at m) n in
    memory_is (column (value_at m) n) m (omega arith) low (λ x l. column_at (value_at m) n x (omega arith))

-- the values that stand first in a longer list, as where a program has fewer variables than there is room for
module _ (w : List ℕ) (n : ℕ) (fits : n ≤ length w) where
  pub memory_first_value : (x : ℕ) → x < n → value_at (memory_of (take n w)) x ≡ get_or w x 0
  memory_first_value x l = memory_value (take n w) x (rw (length-take-le n w fits) l) ∙ get_or-take n w x 0 l

  pub memory_first_set : (x v : ℕ) → x < n → v < 2 ^ 32 → set_value (memory_of (take n w)) x v ≡ memory_of (take n (set w x v))
  memory_first_set x v l h = rw (take-set-lt n w x v l) (memory_set (take n w) x v (rw (length-take-le n w fits) l) h)

-- the bytes of the first values are the first bytes
pub memory_first_part : (w : List ℕ) (n b : ℕ) → b ≤ n → n ≤ length w → take (4 * b) (memory_of (take n w)) ≡ memory_of (take b w)
unfolding memory_of
memory_first_part w n zero l h = refl
memory_first_part w zero (suc b) l h = absurd (omega arith)
memory_first_part [] (suc n) (suc b) l h = absurd (omega arith)
memory_first_part (v ∷ w) (suc n) (suc b) l h =
    let e : 4 * suc b ≡ suc (suc (suc (suc (4 * b)))) = omega arith in rw (e, memory_first_part w n b (omega arith) (omega arith))

-- a memory with kept bytes laid over its first is as long as it was
restored_length : (kept m : List ℕ) → length (restored kept m) ≡ length m
unfolding restored
restored_length [] m = refl
restored_length (b ∷ kept) [] = refl
restored_length (b ∷ kept) (a ∷ m) = rw (restored_length kept m)

-- a memory with its own first bytes laid over it is itself
pub restored_own : (n : ℕ) (m : List ℕ) → restored (take n m) m ≡ m
unfolding restored
restored_own zero m = refl
restored_own (suc n) [] = refl
restored_own (suc n) (a ∷ m) = rw (restored_own n m)

-- a byte that is set among the first n is gone where the first n of a memory as long are laid over it
restored_set : (n : ℕ) (whole m : List ℕ) (i v : ℕ) → length m ≡ length whole → i < n → restored (take n whole) (set m i v) ≡ restored (take n whole) m
unfolding restored
restored_set zero whole m i v e l = absurd (omega arith)
restored_set (suc n) [] [] i v e l = refl
restored_set (suc n) [] (a ∷ m) i v e l = absurd (omega arith)
restored_set (suc n) (b ∷ whole) [] i v e l = refl
restored_set (suc n) (b ∷ whole) (a ∷ m) zero v e l = refl
restored_set (suc n) (b ∷ whole) (a ∷ m) (suc i) v e l = rw (restored_set n whole m i v (omega arith) (omega arith))

-- and so are bytes that are put there
restored_put : (n : ℕ) (whole m : List ℕ) (at k v : ℕ) → length m ≡ length whole → at + k ≤ n → restored (take n whole) (put m at k v) ≡ restored (take n whole) m
unfolding put
restored_put n whole m at zero v e l = refl
restored_put n whole m at (suc k) v e l =
    restored_set n whole (put m at k v) (at + k) _ (length_put m at k v ∙ e) (omega arith) ∙ restored_put n whole m at k v e (omega arith)

-- so a variable below the bound may be set: what is restored stays the same
pub restored_value : (b : ℕ) (whole m : List ℕ) (x v : ℕ) → x < b → restored (take (4 * b) whole) m ≡ whole → restored (take (4 * b) whole) (set_value m x v) ≡ whole
unfolding set_value
restored_value b whole m x v l e =
    let k : length m ≡ length whole = sym (restored_length (take (4 * b) whole) m) ∙ ap length e in
    restored_put (4 * b) whole m (4 * x) 4 v k (omega arith) ∙ e

-- the bytes of b kept values laid over a memory are those of the values of which the first b are the kept ones
pub memory_restored : (w kept w₁ : List ℕ) (n b : ℕ) → b ≤ n → n ≤ length w → b ≤ length kept → length w₁ ≡ length w → take b w₁ ≡ take b kept
    → ((i : ℕ) → b ≤ i → get_or w₁ i 0 ≡ get_or w i 0) → restored (memory_of (take b kept)) (memory_of (take n w)) ≡ memory_of (take n w₁)
unfolding restored memory_of
memory_restored w kept w₁ n zero l h k e first rest = let same : w ≡ w₁ = sym (ext_get_or 0 w₁ w e (λ i j. rest i (omega arith))) in rw same
memory_restored w kept w₁ zero (suc b) l h k e first rest = absurd (omega arith)
memory_restored [] kept w₁ (suc n) (suc b) l h k e first rest = absurd (omega arith)
memory_restored (v ∷ w) [] w₁ (suc n) (suc b) l h k e first rest = absurd (omega arith)
memory_restored (v ∷ w) (u ∷ kept) [] (suc n) (suc b) l h k e first rest = absurd (omega arith)
memory_restored (v ∷ w) (u ∷ kept) (u₁ ∷ w₁) (suc n) (suc b) l h k e first rest =
    rw (head-eq_of_cons-eq first, memory_restored w kept w₁ n b (omega arith) (omega arith) (omega arith) (omega arith) (tail-eq_of_cons-eq first) (λ i j. rest (suc i) (omega arith)))

-- bytes after n values of w have been stored in them, from the first on
unfoldable pub stored : List ℕ → List ℕ → ℕ → List ℕ
stored w to zero = to
stored w to (suc n) = put (stored w to n) (4 * n) 4 (get_or w n 0)

-- a loop's first state, and its next, with t the bytes before the round and u those after it
pub stored_start : (w to : List ℕ) → to ≡ stored w to 0
unfolding stored
stored_start w to = refl

pub stored_more : (w to t u : List ℕ) (i : ℕ) → t ≡ stored w to i → u ≡ put t (4 * i) 4 (get_or w i 0) → u ≡ stored w to (i + 1)
unfolding stored
stored_more w to t u i e h = let k : i + 1 ≡ suc i = omega arith in h ∙ rw (e, k)

-- the first value takes the first four bytes, the others what is behind them
stored_behind : (v a b c d : ℕ) (w to : List ℕ) (n : ℕ) → v < 2 ^ 32
    → stored (v ∷ w) (a ∷ b ∷ c ∷ d ∷ to) (suc n) ≡ v % 256 ∷ v / 256 % 256 ∷ v / 65536 % 256 ∷ v / 16777216 ∷ stored w to n
unfolding stored
stored_behind v a b c d w to zero l = put_front a b c d v to l
stored_behind v a b c d w to (suc n) l = rw (stored_behind v a b c d w to n l) (put_behind _ _ _ _ (stored w to n) n 4 (get_or w n 0))

-- n values stored in a room for n
pub stored_first : (w to : List ℕ) (n : ℕ) → n ≤ length w → length to ≡ 4 * n → ((i : ℕ) → i < n → get_or w i 0 < 2 ^ 32) → stored w to n ≡ memory_of (take n w)
unfolding stored memory_of
stored_first w [] zero l e low = refl
stored_first w (a ∷ to) zero l e low = absurd (omega arith)
stored_first [] to (suc n) l e low = absurd (omega arith)
stored_first (v ∷ w) [] (suc n) l e low = absurd (omega arith)
stored_first (v ∷ w) (a ∷ []) (suc n) l e low = absurd (omega arith)
stored_first (v ∷ w) (a ∷ b ∷ []) (suc n) l e low = absurd (omega arith)
stored_first (v ∷ w) (a ∷ b ∷ c ∷ []) (suc n) l e low = absurd (omega arith)
stored_first (v ∷ w) (a ∷ b ∷ c ∷ d ∷ to) (suc n) l e low =
    stored_behind v a b c d w to n (low 0 (omega arith)) ∙ rw (stored_first w to n (omega arith) (omega arith) (λ i k. low (suc i) (omega arith)))
