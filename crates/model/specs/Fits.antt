-- Trees that name only what there is: roles below R, principals below P, variables below the program's number of them.
-- What is read is such (a theorem, `program_parts`); contracts over a read program's bytes cite it.
use Rattle.std.specs.Prelude.{ℕ, ◌<◌}
use mathlib.Core.List.{List, Memᴰ}
use Rattle.model.specs.Mutation.{Kind, addMember, deleteMember, addTaken, deleteTaken, Mutation}
use Rattle.model.specs.Syntax.{of, everyone, Atom, role, fixed, Query, Expr, constant, variable, binary, Stmt, skip, assign, empty, block, if, while, query, update, transaction}

-- every element of a list
abbrev pub Each : {A : Type 0} → (A → Type 0) → List A → Type 0
Each {A} Q xs = (x : A) → Memᴰ x xs → Q x

-- atoms, queries and mutations that name only the R roles and P principals that there are
abbrev pub AtomFits : ℕ → Atom → Type 0
AtomFits R (role j) = j < R
AtomFits R (fixed (of side j)) = j < R
AtomFits R (fixed everyone) = Unit {0}

abbrev pub QueryFits : ℕ → Query → Type 0
QueryFits R q = AtomFits R q.first × AtomFits R q.second

abbrev pub operand_limit : ℕ → ℕ → Kind → ℕ
operand_limit P R addMember = P
operand_limit P R deleteMember = P
operand_limit P R addTaken = R
operand_limit P R deleteTaken = R

abbrev pub MutationFits : ℕ → ℕ → Mutation → Type 0
MutationFits P R m = (m.role < R) × (m.operand < operand_limit P R m.kind)

-- expressions that name only the vars variables that there are
abbrev pub ExprFits : ℕ → Expr → Type 0
ExprFits vars (constant n) = Unit {0}
ExprFits vars (variable x) = x < vars
ExprFits vars (binary op a b) = ExprFits vars a × ExprFits vars b

-- a statement of which all this is so
abbrev pub Fits : ℕ → ℕ → ℕ → Stmt → Type 0
Fits P R vars skip = Unit {0}
Fits P R vars (assign at x e) = (x < vars) × ExprFits vars e
Fits P R vars empty = Unit {0}
Fits P R vars (block a b) = Fits P R vars a × Fits P R vars b
Fits P R vars (if e a b) = ExprFits vars e × Fits P R vars a × Fits P R vars b
Fits P R vars (while e a) = ExprFits vars e × Fits P R vars a
Fits P R vars (query at q a b) = QueryFits R q × Fits P R vars a × Fits P R vars b
Fits P R vars (update at ms) = Each (MutationFits P R) ms
Fits P R vars (transaction at start end qs a) = Each (QueryFits R) qs × Fits P R vars a
