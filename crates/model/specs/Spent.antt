-- When a unit is wanted with none left: document 01's "A unit wanted with none left means spent; nothing else does",
-- by the run rules alone. No bound on rounds or restarts stands here; that `execute` is spent exactly then is a theorem.
use Rattle.std.specs.Prelude.{ℕ, suc, ◌≡◌, List, [], ◌++◌, Bool, true, false}
use Rattle.model.specs.Syntax.{Query, Expr, Stmt, skip, assign, empty, block, if, while, query, update, transaction}
use Rattle.model.specs.Atoms.{holds}
use Rattle.model.specs.Value.{evaluate, truth}
use Rattle.model.specs.Run.{Update, done, rolled, execute}

-- what begins with a unit: every statement but a block, which costs nothing
abbrev pub costs : Stmt → Bool
costs skip = true
costs (assign at x e) = true
costs empty = false
costs (block a b) = false
costs (if e a b) = true
costs (while e a) = true
costs (query at q a b) = true
costs (update at ms) = true
costs (transaction at start end qs a) = true

-- a statement of a program of some version, in a transaction that lists these queries, comes, with this fuel, from a policy
-- and a memory and after these updates, to a unit that is wanted with none left
pub data Wanted (v : ℕ) : List Query → Stmt → ℕ → List ℕ → List ℕ → List Update → Type 0 where
  -- its own first unit
  at_once : {l : List Query} {x : Stmt} {s m : List ℕ} → costs x ≡ true → Wanted v l x 0 s m []
  -- a block: in its first statement, or in the rest, once that is done
  in_first : {l : List Query} {a b : Stmt} {f : ℕ} {s m : List ℕ} {us : List Update} → Wanted v l a f s m us → Wanted v l (block a b) f s m us
  in_rest : {l : List Query} {a b : Stmt} {f g : ℕ} {s m s₁ m₁ : List ℕ} {us vs : List Update}
      → execute v a l f s m ≡ done s₁ m₁ us g → Wanted v l b g s₁ m₁ vs → Wanted v l (block a b) f s m (us ++ vs)
  -- an if: in the branch that its test takes
  in_then : {l : List Query} {e : Expr} {a b : Stmt} {f : ℕ} {s m : List ℕ} {us : List Update}
      → truth (evaluate v m e) ≡ true → Wanted v l a f s m us → Wanted v l (if e a b) (suc f) s m us
  in_else : {l : List Query} {e : Expr} {a b : Stmt} {f : ℕ} {s m : List ℕ} {us : List Update}
      → truth (evaluate v m e) ≡ false → Wanted v l b f s m us → Wanted v l (if e a b) (suc f) s m us
  -- a while whose test holds: in its body, or in the same while again, once the body is done
  in_body : {l : List Query} {e : Expr} {a : Stmt} {f : ℕ} {s m : List ℕ} {us : List Update}
      → truth (evaluate v m e) ≡ true → Wanted v l a f s m us → Wanted v l (while e a) (suc f) s m us
  in_next : {l : List Query} {e : Expr} {a : Stmt} {f g : ℕ} {s m s₁ m₁ : List ℕ} {us vs : List Update}
      → truth (evaluate v m e) ≡ true → execute v a l f s m ≡ done s₁ m₁ us g → Wanted v l (while e a) g s₁ m₁ vs → Wanted v l (while e a) (suc f) s m (us ++ vs)
  -- a query: in the branch that its answer takes
  in_holds : {l : List Query} {at : ℕ} {q : Query} {a b : Stmt} {f : ℕ} {s m : List ℕ} {us : List Update}
      → holds s q ≡ true → Wanted v l a f s m us → Wanted v l (query at q a b) (suc f) s m us
  in_fails : {l : List Query} {at : ℕ} {q : Query} {a b : Stmt} {f : ℕ} {s m : List ℕ} {us : List Update}
      → holds s q ≡ false → Wanted v l b f s m us → Wanted v l (query at q a b) (suc f) s m us
  -- a transaction: in its body, or in the same transaction begun again, the new policy kept, from the memory of its start
  in_transaction : {l qs : List Query} {at start end : ℕ} {a : Stmt} {f : ℕ} {s m : List ℕ} {us : List Update}
      → Wanted v qs a f s m us → Wanted v l (transaction at start end qs a) (suc f) s m us
  in_restart : {l qs : List Query} {at start end : ℕ} {a : Stmt} {f g : ℕ} {s m s₁ : List ℕ} {us vs : List Update}
      → execute v a qs f s m ≡ rolled s₁ us g → Wanted v l (transaction at start end qs a) g s₁ m vs → Wanted v l (transaction at start end qs a) (suc f) s m (us ++ vs)
