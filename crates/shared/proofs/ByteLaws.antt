-- Laws of bytes.rt: past the end stands 0, a number is the sum of its bytes and is written by copying them, and a mark is compared byte by byte.
use mathlib.Core.Path.{◌≡◌, refl, sym, ◌∙◌}
use Prim.Native.Nat.{ℕ, zero, suc, ◌+◌, ◌-◌, ◌/◌, ◌%◌, ◌^◌, ◌<◌, ◌≤◌}
use mathlib.Core.List.{List, [], ◌∷◌}
use Rattle.std.proofs.Common.{ap, zero-add, slice_range, lit<, get_or-take, get_or-drop}
use Rattle.std.specs.Int.{w32, w64, sum_through, byte_worth, bytes_low_first, from_le_bytes}
use Rattle.std.proofs.Math.Seq.{paste, paste-suc}
use Rattle.std.proofs.lemmas.List.Edits.{paste_none}
use Rattle.std.proofs.lemmas.Slice.{put_mid-paste}
use borrow.Rule.Slice.PartMut.{put_mid}
use mathlib.Core.Bool.{Bool, true, false, cond}
use native.Mathlib.Omega.{arith}
use native.Mathlib.Nat.{add-zero, div-one}
use native.Mathlib.Numerals.{add-one}
use lib.Dec.{eqb, eqb-zero-suc, eqb-suc-suc}
use lib.ListN.{length, get_or, get_or-eq_default, drop, drop_of_length-le}
use lib.Seq.{drop-cons}
use borrow.Author.Tests.{eq-eqb, ne_eqb}
use Rattle.model.specs.Bytes.{byte, word, put, starts_with}
use Rattle.shared.specs.Marks.{matching}

pub byte_past : (s : List ℕ) (at : ℕ) → length s ≤ at → 0 ≡ byte s at
byte_past s at h = sym (get_or-eq_default s 0 h)

-- a byte of a part is that of the whole, further on
part_byte : (s : List ℕ) (at n i : ℕ) → i < n → get_or (slice_range s at (at + n)) i 0 ≡ byte s (at + i)
part_byte s at n i h = let l : i < at + n - at = omega arith in get_or-take (at + n - at) (drop at s) i 0 l ∙ get_or-drop at s i 0

-- bytes, each worth what its place says, are the number there
word_sum : (s : List ℕ) (at m n : ℕ) → n < m → sum_through (λ i. byte_worth i (get_or (slice_range s at (at + m)) i 0)) n ≡ word s at (suc n)
unfolding word
word_sum s at m zero h = rw (part_byte s at m 0 h) (omega arith)
word_sum s at m (suc n) h = rw (part_byte s at m (suc n) h, word_sum s at m n (omega arith))

module _ (s : List ℕ) (at : ℕ) (part : List ℕ) (r : ℕ) where
  pub word_of_4 : part ≡ slice_range s at (at + 4) → r ≡ from_le_bytes w32 part → r ≡ word s at 4
  word_of_4 p e = rw (e, p) (word_sum s at 4 3 (lit< tt))

  pub word_of_8 : part ≡ slice_range s at (at + 8) → r ≡ from_le_bytes w64 part → r ≡ word s at 8
  word_of_8 p e = rw (e, p) (word_sum s at 8 7 (lit< tt))

pub ruleset words = (word_of_4, word_of_8)

-- the n lowest bytes of a number, from byte i up
length_low : (v i n : ℕ) → length (bytes_low_first i n v) ≡ n
length_low v i zero = refl
length_low v i (suc n) = ap (λ k. suc k) (length_low v (suc i) n)

byte_low : (v i n k : ℕ) → k < n → get_or (bytes_low_first i n v) k 0 ≡ v / 256 ^ (i + k) % 256
byte_low v i zero k h = absurd (omega arith)
byte_low v zero (suc n) zero h = rw div-one
byte_low v (suc i) (suc n) zero h = rw add-zero
byte_low v i (suc n) (suc k) h = let e : i + suc k ≡ suc i + k = omega arith in rw e (byte_low v (suc i) n k (omega arith))

-- writing them one after the other copies them
put_copies : (s : List ℕ) (at v m : ℕ) → at + m ≤ length s → (n : ℕ) → n ≤ m → put s at n v ≡ paste s at (bytes_low_first 0 m v) n
unfolding put
put_copies s at v m room zero h = paste_none s at (bytes_low_first 0 m v)
put_copies s at v m room (suc n) h =
    let b : get_or (bytes_low_first 0 m v) n 0 ≡ v / 256 ^ (0 + n) % 256 = byte_low v 0 m n (omega arith) in
    rw (put_copies s at v m room n (omega arith), ← (rw zero-add at b)) (paste-suc s at (bytes_low_first 0 m v) n 0 (omega arith) (omega (arith, length_low v 0 m)))

pub put_of : (s : List ℕ) (at n v : ℕ) (part bytes : List ℕ) → at + n ≤ length s → bytes ≡ bytes_low_first 0 n v → part ≡ bytes → put_mid at (at + n - at) s part ≡ put s at n v
put_of s at n v part bytes room e p =
    put_mid-paste at (at + n - at) s part (bytes_low_first 0 n v) n (p ∙ e) (omega arith) (sym (length_low v 0 n)) ∙ sym (put_copies s at v n room n (omega arith))

-- what of a mark is still to be compared from position i on
module _ (s m : List ℕ) (r i : ℕ) (e : i + matching (drop i s) (drop i m) ≡ r) where
  pub mark_done : length m ≤ i → i ≡ r
  unfolding matching
  mark_done h = sym (add-zero i) ∙ (rw (drop_of_length-le m {i = i} h) at e)

  module _ (g : i < length m) where
    pub mark_short : length s ≤ i → i ≡ r
    unfolding matching
    mark_short h = sym (add-zero i) ∙ (rw (drop_of_length-le s {i = i} h, drop-cons m i 0 g) at e)

    module _ (h : i < length s) where
      pub mark_other : (get_or s i 0 ≡ get_or m i 0 → ⊥) → i ≡ r
      unfolding matching
      mark_other n = sym (add-zero i) ∙ (simp (drop-cons s i 0 h, drop-cons m i 0 g, ne_eqb _ _ n) at e)

      pub mark_same : get_or s i 0 ≡ get_or m i 0 → i + 1 + matching (drop (i + 1) s) (drop (i + 1) m) ≡ r
      unfolding matching
      mark_same n =
          let k : i + suc (matching (drop (suc i) s) (drop (suc i) m)) ≡ r = simp (drop-cons s i 0 h, drop-cons m i 0 g, eq-eqb _ _ n) at e in
          rw (add-one i) (omega arith)

pub ruleset marks = (mark_short, mark_other, mark_same, mark_done)

-- bytes begin with a mark when they match all of it
all_matching : (s m : List ℕ) → eqb (matching s m) (length m) ≡ starts_with s m
unfolding matching starts_with
all_matching s [] = refl
all_matching [] (y ∷ m) = eqb-zero-suc (length m)
all_matching (x ∷ s) (y ∷ m) = go (eqb x y) (all_matching s m)
  where
    go : (b : Bool) → eqb (matching s m) (length m) ≡ starts_with s m → eqb (cond b (suc (matching s m)) 0) (suc (length m)) ≡ cond b (starts_with s m) false
    go true e = eqb-suc-suc (matching s m) (length m) ∙ e
    go false e = eqb-zero-suc (length m)

pub mark_whole : (s m : List ℕ) (k : ℕ) → k ≡ matching s m → eqb k (length m) ≡ starts_with s m
mark_whole s m k e = rw e (all_matching s m)
