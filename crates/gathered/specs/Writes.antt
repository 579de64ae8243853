-- What the walk over a statement gives: where it ends, and the variables and roles that it writes anywhere, added to what was gathered before.
use Rattle.std.specs.Prelude.{◌≡◌, ℕ, ◌+◌, ◌<◌, ◌≤◌, List, length}
use Rattle.std.specs.Int.Bits.{bit_or}
use Rattle.model.specs.Limits.{role_limit, variable_limit}
use Rattle.model.specs.Bytes.{byte}
use Rattle.model.specs.Mutation.{Mutation}
use Rattle.model.specs.Syntax.{Stmt, update}
use Rattle.model.specs.Program.{got, read_many, read_mutation, read_stmt, block_of}
use Rattle.model.specs.Flow.{assigned, mutated}
use Rattle.gathered.specs.declared.writes.Writes.{Writes}

-- as many roles and variables as a program and its policy may have, so that a set of them is a word
abbrev pub Fit : ℕ → ℕ → Type 0
Fit R vars = (R ≤ role_limit) × (vars ≤ variable_limit)

-- what x writes, added to what was written before
abbrev pub writes_added : Stmt → Writes → Writes
writes_added x before = record { variables = bit_or (assigned x) before.variables; roles = bit_or (mutated x) before.roles }

-- The walks' answers, each of the tree that was read at a position, under any policy and any number of variables that fit.

-- r is where the statement that stands at a position ends, and what it writes is added
unfoldable pub WritesAt : List ℕ → ℕ → ℕ → Writes → Writes → ℕ → Type 0
WritesAt p depth at before after r =
    (P R vars : ℕ) → Fit R vars → (x : Stmt) (end : ℕ) → read_stmt p P R vars depth at ≡ got x end → (r ≡ end) × (after ≡ writes_added x before)

-- the same of an assignment, whose code stands there
unfoldable pub AssignWrites : List ℕ → ℕ → Writes → Writes → ℕ → Type 0
AssignWrites p at before after r = (depth : ℕ) → byte p at ≡ 1 → WritesAt p depth at before after r

-- the same of two statements, one after the other
unfoldable pub PairWrites : List ℕ → ℕ → ℕ → Writes → Writes → ℕ → Type 0
PairWrites p depth at before after r =
    (P R vars : ℕ) → Fit R vars → (a b : Stmt) (mid end : ℕ) → read_stmt p P R vars depth at ≡ got a mid → read_stmt p P R vars depth mid ≡ got b end
    → (r ≡ end) × (after ≡ writes_added b (writes_added a before))

-- the same of n statements whose count stands at a position
unfoldable pub BlockWrites : List ℕ → ℕ → ℕ → Writes → Writes → ℕ → Type 0
BlockWrites p depth at before after r =
    (P R vars : ℕ) → Fit R vars → at < length p → (xs : List Stmt) (end : ℕ) → read_many (read_stmt p P R vars depth) (byte p at) (at + 1) ≡ got xs end
    → (r ≡ end) × (after ≡ writes_added (block_of xs) before)

-- the same of n mutations whose count stands at a position
unfoldable pub UpdateWrites : List ℕ → ℕ → Writes → Writes → ℕ → Type 0
UpdateWrites p at before after r =
    (P R : ℕ) → R ≤ role_limit → at < length p → (ms : List Mutation) (end : ℕ) → read_many (read_mutation p P R) (byte p at) (at + 1) ≡ got ms end
    → (r ≡ end) × (after ≡ writes_added (update at ms) before)
