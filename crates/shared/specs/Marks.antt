-- Marks: the fixed bytes that a file begins with.
use Rattle.std.specs.Prelude.{ℕ, suc, List, [], ◌∷◌, cond, eqb}

-- how many bytes of a mark the bytes begin with
unfoldable pub matching : List ℕ → List ℕ → ℕ
matching s [] = 0
matching [] (m ∷ ms) = 0
matching (x ∷ xs) (m ∷ ms) = cond (eqb x m) (suc (matching xs ms)) 0
