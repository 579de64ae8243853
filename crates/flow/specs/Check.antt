-- What the checks of statements in a statement answer: the flow rules' verdict of one with a given code, of two, and of a query's
-- branches.
use Rattle.std.specs.Prelude.{◌≡◌, ℕ, List, ◌∷◌, Result}
use Rattle.model.specs.Number.{or_else}
use Rattle.model.specs.Bytes.{byte}
use Rattle.model.specs.Policy.{Side, roles}
use Rattle.model.specs.Syntax.{Atom, Query, Stmt}
use Rattle.model.specs.Program.{got, read_query}
use Rattle.model.specs.Fits.{QueryFits}
use Rattle.model.specs.Flow.{Around as Surroundings, flow}
use Rattle.order.specs.Table.{Table, Learnt}
use Rattle.program.specs.declared.codes.Statement.{Statement}
use Rattle.program.specs.declared.refused.Refused.{Refused}
use Rattle.program.specs.Refused.{tells}
use Rattle.program.specs.Codes.{statement_byte}
use Rattle.context.specs.Context.{Carried}
use Rattle.rules.specs.Check.{checked_to, Stands, StmtAt, StmtFits, CheckedAt}

-- r is the answer on the statement that stands at a position, where its code is the given one
unfoldable pub CodedAt : Statement → List ℕ → List ℕ → Table → Carried → ℕ → ℕ → Result ℕ Refused → Type 0
CodedAt code s p t c depth at r = byte p at ≡ statement_byte code → CheckedAt s p t c depth at r

-- the same of two statements, one after the other
unfoldable pub PairAt : List ℕ → List ℕ → Table → Carried → ℕ → ℕ → Result ℕ Refused → Type 0
PairAt s p t c depth at r =
    (around : Surroundings) (known : List Query) (C : Side → List Atom) (x y : Stmt) (mid end : ℕ)
    → Stands s p t c around known C → StmtAt s p depth at x mid → StmtFits s p around x → StmtAt s p depth mid y end → StmtFits s p around y
    → tells r ≡ checked_to (or_else (flow s p around known C x) (flow s p around known C y)) end

-- the same of the branches of the query q: the first also knows it
unfoldable pub BranchesAt : List ℕ → List ℕ → Table → Carried → ℕ → ℕ → Query → Result ℕ Refused → Type 0
BranchesAt s p t c depth at q r =
    (around : Surroundings) (known : List Query) (C : Side → List Atom) (x y : Stmt) (mid end : ℕ)
    → QueryFits (roles s) q → Stands s p t c around known C
    → StmtAt s p depth at x mid → StmtFits s p around x → StmtAt s p depth mid y end → StmtFits s p around y
    → tells r ≡ checked_to (or_else (flow s p around (q ∷ known) C x) (flow s p around known C y)) end

-- the table k and what b carries stand for what the table t and what c carries stand for, with the query q known too
unfoldable pub Knowing : List ℕ → List ℕ → Table → Table → Carried → Carried → Query → Type 0
Knowing s p k t b c q =
    (around : Surroundings) (known : List Query) (C : Side → List Atom) → QueryFits (roles s) q → Stands s p t c around known C
    → Stands s p k b around (q ∷ known) C

-- the same, where the first branch has a table and something around it of its own
unfoldable pub BothAt : List ℕ → List ℕ → Table → Table → Carried → Carried → ℕ → ℕ → Result ℕ Refused → Type 0
BothAt s p k t b c depth at r = (q : Query) → Knowing s p k t b c q → BranchesAt s p t c depth at q r

-- the same, where k is the table t with that query known
unfoldable pub LearntAt : List ℕ → List ℕ → Table → Table → Carried → ℕ → ℕ → Result ℕ Refused → Type 0
LearntAt s p k t c depth at r = (q : Query) → Learnt (roles s) t k q → BranchesAt s p t c depth at q r

-- the same, where the query stands at the position `asked`
unfoldable pub BranchesOf : List ℕ → List ℕ → Table → Carried → ℕ → ℕ → ℕ → Result ℕ Refused → Type 0
BranchesOf s p t c depth at asked r = (q : Query) (end : ℕ) → read_query p (roles s) asked ≡ got q end → BranchesAt s p t c depth at q r
