-- Text written after text is both in one. A buffer keeps its length; where there is room for the whole text, the buffer's
-- start is the text.
use Prim.Native.Nat.{ℕ, ◌+◌, ◌<◌, ◌≤◌}
use native.Mathlib.Omega.{arith}
use native.Mathlib.Numerals.{add-one}
use mathlib.Core.Path.{◌≡◌, refl, sym, ◌∙◌}
use mathlib.Core.Logic.{⊎_elim}
use mathlib.Core.Bool.{true, false}
use mathlib.Core.List.{List, [], ◌∷◌, ◌++◌, append-nil}
use lib.Dec.{ltb}
use lib.ListN.{length, take, set, get_or, length-set}
use lib.Seq.{take-suc, take-suc-set, take_all, append_snoc}
use borrow.Author.Tests.{ltb-true, lt-ltb, le-ltb}
use Rattle.model.proofs.Truth.{true_or_false}
use Rattle.report.specs.Writing.{written, write}

-- the last write of two after the first is the write of both
pub write_both : (out : List ℕ) (at : ℕ) (s t o : List ℕ) (r : ℕ) → written o r ≡ write out at s → write o r t ≡ write out at (s ++ t)
unfolding write
write_both out at [] t o r e = let f : o ≡ out = cc in let g : r ≡ at = cc in rw (f, g)
write_both out at (b ∷ s) t o r e =
    ⊎_elim
    (λ (l : ltb at (length out) ≡ true). rw l (write_both (set out at b) (at + 1) s t o r (rw l at e)))
    (λ (l : ltb at (length out) ≡ false). let d : written o r ≡ written out at = rw l at e in
    let f : o ≡ out = cc in
    let g : r ≡ at = cc in
    rw (l, f, g) (full t l))
    (true_or_false (ltb at (length out)))
  where
    full : (t : List ℕ) → ltb at (length out) ≡ false → write out at t ≡ written out at
    full [] l = refl
    full (c ∷ t) l = rw l

module _ (out : List ℕ) (at : ℕ) where
  -- one byte, with room for it and without
  pub put_there : (b : ℕ) → at < length out → written (set out at b) (at + 1) ≡ write out at (b ∷ [])
  unfolding write
  put_there b l = rw (lt-ltb at (length out) l)

  pub put_full : (b : ℕ) → length out ≤ at → written out at ≡ write out at (b ∷ [])
  unfolding write
  put_full b l = rw (le-ltb at (length out) l)

  -- writing goes on after what is written
  pub put_then : (s t o₁ o₂ : List ℕ) (r₁ r₂ : ℕ) → written o₁ r₁ ≡ write out at s → written o₂ r₂ ≡ write o₁ r₁ t → written o₂ r₂ ≡ write out at (s ++ t)
  put_then s t o₁ o₂ r₁ r₂ d e = e ∙ write_both out at s t o₁ r₁ d

  -- nothing, one byte more, and all bytes of a text
  pub all_none : (text : List ℕ) → written out at ≡ write out at (take 0 text)
  unfolding write
  all_none text = refl

  pub all_more : (text : List ℕ) (i : ℕ) (o₁ o₂ : List ℕ) (r₁ r₂ : ℕ) → i < length text → written o₁ r₁ ≡ write out at (take i text)
      → written o₂ r₂ ≡ write o₁ r₁ (get_or text i 0 ∷ []) → written o₂ r₂ ≡ write out at (take (i + 1) text)
  all_more text i o₁ o₂ r₁ r₂ l d e = rw (add-one, take-suc text i 0 l) (put_then (take i text) (get_or text i 0 ∷ []) o₁ o₂ r₁ r₂ d e)

  pub all_end : (text : List ℕ) (i : ℕ) (o : List ℕ) (r : ℕ) → length text ≤ i → written o r ≡ write out at (take i text) → written o r ≡ write out at text
  all_end text i o r l d = rw (take_all i text l) at d

-- the buffer keeps its length, and the end of what is written stays within it
pub write_within : (out : List ℕ) (at : ℕ) (text o : List ℕ) (r : ℕ) → at ≤ length out → written o r ≡ write out at text → (length o ≡ length out) × (r ≤ length o)
unfolding write
write_within out at [] o r l e = let f : o ≡ out = cc in let g : r ≡ at = cc in rw (f, g) (refl, l)
write_within out at (b ∷ text) o r l e =
    ⊎_elim
    (λ (h : ltb at (length out) ≡ true).
    let i = ltb-true at (length out) h in
    let k = length-set out at b in
    let z = write_within (set out at b) (at + 1) text o r (omega arith) (rw h at e) in
    (z.0 ∙ k, z.1))
    (λ (h : ltb at (length out) ≡ false).
    let d : written o r ≡ written out at = rw h at e in
    let f : o ≡ out = cc in
    let g : r ≡ at = cc in
    rw (f, g) (refl, l))
    (true_or_false (ltb at (length out)))

-- with room for all of it, the text stands behind what was there
pub write_whole : (out : List ℕ) (at : ℕ) (text o : List ℕ) (r : ℕ) → at + length text ≤ length out → written o r ≡ write out at text → take r o ≡ take at out ++ text
unfolding write
write_whole out at [] o r l e = let f : o ≡ out = cc in let g : r ≡ at = cc in rw (f, g) (sym (append-nil (take at out)))
write_whole out at (b ∷ text) o r l e =
    let i : at < length out = omega arith in
    let k = length-set out at b in
    write_whole (set out at b) (at + 1) text o r (omega arith) (rw (lt-ltb at (length out) i) at e)
    ∙ rw (add-one, take-suc-set out at b i) (append_snoc (take at out) b text)
