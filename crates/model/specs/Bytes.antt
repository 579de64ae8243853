-- Bytes of a file or buffer, by position; wider numbers are little-endian.
use Rattle.std.specs.Prelude.{ℕ, zero, suc, ◌+◌, ◌*◌, ◌/◌, ◌%◌, ◌^◌, List, [], ◌∷◌, Bool, true, false, cond, eqb, get_or, set}

-- the byte at a position, 0 past the end
abbrev pub byte : List ℕ → ℕ → ℕ
byte s at = get_or s at 0

-- the number that n bytes from a position give
unfoldable pub word : List ℕ → ℕ → ℕ → ℕ
word s at zero = 0
word s at (suc n) = word s at n + byte s (at + n) * 256 ^ n

-- the bytes with the low n bytes of v written from a position on
unfoldable pub put : List ℕ → ℕ → ℕ → ℕ → List ℕ
put s at zero v = s
put s at (suc n) v = set (put s at n v) (at + n) (v / 256 ^ n % 256)

-- whether the bytes begin with those of a mark
unfoldable pub starts_with : List ℕ → List ℕ → Bool
starts_with s [] = true
starts_with [] (m ∷ ms) = false
starts_with (x ∷ xs) (m ∷ ms) = cond (eqb x m) (starts_with xs ms) false
