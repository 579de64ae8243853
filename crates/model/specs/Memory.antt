-- A memory by its values: what the bytes are when values stand side by side.
use Rattle.std.specs.Prelude.{ℕ, ◌/◌, ◌%◌, List, [], ◌∷◌}

-- the bytes of values side by side, four each, the lowest first (the last is not cut: a value is below 2^32)
unfoldable pub memory_of : List ℕ → List ℕ
memory_of [] = []
memory_of (v ∷ vs) = v % 256 ∷ v / 256 % 256 ∷ v / 65536 % 256 ∷ v / 16777216 ∷ memory_of vs
