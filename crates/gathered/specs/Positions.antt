-- Positions in a program's bytes.
use Rattle.std.specs.Prelude.{◌≡◌, ℕ, ◌+◌, ◌*◌, List, cond, leb, length}
use Rattle.model.specs.Bytes.{byte}
use Rattle.model.specs.Syntax.{Expr}
use Rattle.model.specs.Program.{got, read_expr}

-- the position n bytes on, or the end where the bytes end before
unfoldable pub ahead : List ℕ → ℕ → ℕ → ℕ
ahead p at n = cond (leb (at + n) (length p)) (at + n) (length p)

-- the position after a statement's list: its count stands after the code, and each entry has so many bytes
unfoldable pub after_list : List ℕ → ℕ → ℕ → ℕ
after_list p at size = ahead p at (2 + size * byte p (ahead p at 1))

-- r is where the expression that stands at a position ends
unfoldable pub ExprEnds : List ℕ → ℕ → ℕ → ℕ → Type 0
ExprEnds p depth at r = (vars : ℕ) (e : Expr) (end : ℕ) → read_expr p vars depth at ≡ got e end → r ≡ end
