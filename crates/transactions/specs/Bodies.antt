-- What the search for a transaction's body gives.
use Rattle.std.specs.Prelude.{◌≡◌, ℕ, zero, suc, ◌+◌, ◌-◌, ◌<◌, List, [], ◌∷◌, ◌++◌, length}
use Rattle.model.specs.Bytes.{byte}
use Rattle.model.specs.Syntax.{Stmt}
use Rattle.model.specs.Program.{got, read_many, read_stmt, block_of}
use Rattle.model.specs.Flow.{Part, part, bodies}
use Rattle.std.specs.declared.ops.ControlFlow.{ControlFlow}
use Rattle.std.specs.declared.ops.ControlFlow.TheVariants.{Break, Continue}
use Rattle.transactions.specs.declared.span.Span.{Span}
use Rattle.transactions.specs.declared.bodies.Passed.{Passed}
use Rattle.gathered.specs.Writes.{Fit}

-- a body's place where the search breaks off, else what it has passed
abbrev pub Found : Type 0
Found = ControlFlow Span Passed

-- none here: where it ends, and how many transactions are still to pass
abbrev pub none_found : ℕ → ℕ → Found
none_found end k = Continue (record { next = end; left = k })

-- the k-th of the bodies in a statement that ends at a position
unfoldable pub found_of : List Part → ℕ → ℕ → Found
found_of [] k end = none_found end k
found_of (part start size ∷ xs) zero end = Break (record { start = start; size = size })
found_of (part start size ∷ xs) (suc k) end = found_of xs k end

-- r is the k-th body in the statement that stands at a position
unfoldable pub FoundAt : List ℕ → ℕ → ℕ → ℕ → Found → Type 0
FoundAt p depth at k r =
    (P R vars : ℕ) → Fit R vars → (x : Stmt) (end : ℕ) → read_stmt p P R vars depth at ≡ got x end → r ≡ found_of (bodies x) k end

-- the same of two statements, one after the other
unfoldable pub FoundInPair : List ℕ → ℕ → ℕ → ℕ → Found → Type 0
FoundInPair p depth at k r =
    (P R vars : ℕ) → Fit R vars → (a b : Stmt) (mid end : ℕ) → read_stmt p P R vars depth at ≡ got a mid → read_stmt p P R vars depth mid ≡ got b end
    → r ≡ found_of (bodies a ++ bodies b) k end

-- the same of n statements whose count stands at a position
unfoldable pub FoundInBlock : List ℕ → ℕ → ℕ → ℕ → Found → Type 0
FoundInBlock p depth at k r =
    (P R vars : ℕ) → Fit R vars → at < length p → (xs : List Stmt) (end : ℕ) → read_many (read_stmt p P R vars depth) (byte p at) (at + 1) ≡ got xs end
    → r ≡ found_of (bodies (block_of xs)) k end

-- the same of a transaction whose body stands at a position
unfoldable pub FoundInBody : List ℕ → ℕ → ℕ → ℕ → Found → Type 0
FoundInBody p depth start k r =
    (P R vars : ℕ) → Fit R vars → (x : Stmt) (end : ℕ) → read_stmt p P R vars depth start ≡ got x end
    → r ≡ found_of (part start (end - start) ∷ bodies x) k end
