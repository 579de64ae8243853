-- The roles among an expression's labels, as a word: what the walk over its bytes gathers on either side.
use Rattle.std.specs.Prelude.{ℕ, ◌^◌, List, cond, eqb}
use Rattle.std.specs.Int.Bits.{bit_or}
use Rattle.model.specs.Policy.{Side}
use Rattle.model.specs.Syntax.{Expr, constant, variable, binary}
use Rattle.model.specs.Program.{label_byte}

-- a label's role as a set; everyone adds nothing
abbrev pub label_role : ℕ → ℕ
label_role x = cond (eqb x 0xff) 0 (2 ^ x)

-- the roles among the labels of an expression's variables
unfoldable pub expr_roles : List ℕ → Side → Expr → ℕ
expr_roles p side (constant n) = 0
expr_roles p side (variable x) = label_role (label_byte p side x)
expr_roles p side (binary op a b) = bit_or (expr_roles p side a) (expr_roles p side b)
