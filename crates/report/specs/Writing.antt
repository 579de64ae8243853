-- Text in a buffer that a caller lends: what is written of it, and where the next byte goes.
use Rattle.std.specs.Prelude.{ℕ, ◌+◌, List, [], ◌∷◌, cond, ltb, length, set}

-- the buffer's bytes, and the position after the text
pub data Written : Type 0 where
  written : (buffer : List ℕ) → (next : ℕ) → Written

-- text written from a position on, as much of it as there is room for
unfoldable pub write : List ℕ → ℕ → List ℕ → Written
write out at [] = written out at
write out at (b ∷ text) = cond (ltb at (length out)) (write (set out at b) (at + 1) text) (written out at)
