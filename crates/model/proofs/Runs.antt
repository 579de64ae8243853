-- The run rules as a relation, one rule for each way to go, without fuel: what `execute` finishes, the relation derives, by recursion on the statement and, for loops and restarts, on the fuel.
use Prim.Native.Nat.{ℕ, zero, suc}
use mathlib.Core.Path.{◌≡◌, refl}
use mathlib.Core.List.{List, [], ◌∷◌, ◌++◌}
use mathlib.Core.Bool.{Bool, true, false}
use Rattle.model.specs.Mutation.{Mutation}
use Rattle.model.specs.Syntax.{Query, Expr, Stmt, skip, assign, empty, block, if, while, query, update, transaction}
use Rattle.model.specs.Atoms.{holds}
use Rattle.model.specs.Value.{evaluate, truth, set_value}
use Rattle.model.specs.Run.{Update, Result, done, rolled, spent, after, charge, and_then, mutate_all, broken, loop, attempt, execute}

-- how a statement ends: with a policy and a memory, or rolled back with a policy
pub data End : Type 0 where
  ends : (policy memory : List ℕ) → End
  rolls : (policy : List ℕ) → End

abbrev pub policy_of : End → List ℕ
policy_of (ends s m) = s
policy_of (rolls s) = s

-- a mutated policy, as its update
abbrev pub update_of : List ℕ → List Mutation → Update
update_of s ms = record { before = s; after = mutate_all s ms }

-- a statement in a transaction that lists these queries, from a policy and a memory, to its end with its updates
pub data Runs (v : ℕ) : List Query → Stmt → List ℕ → List ℕ → End → List Update → Type 0 where
  run_skip : {l : List Query} {s m : List ℕ} → Runs v l skip s m (ends s m) []
  run_assign : {l : List Query} {s m : List ℕ} {at x : ℕ} {e : Expr} → Runs v l (assign at x e) s m (ends s (set_value m x (evaluate v m e))) []
  run_empty : {l : List Query} {s m : List ℕ} → Runs v l empty s m (ends s m) []
  run_block : {l : List Query} {a b : Stmt} {s m s₁ m₁ : List ℕ} {o : End} {us vs : List Update}
      → Runs v l a s m (ends s₁ m₁) us → Runs v l b s₁ m₁ o vs → Runs v l (block a b) s m o (us ++ vs)
  run_block_rolls : {l : List Query} {a b : Stmt} {s m s₁ : List ℕ} {us : List Update} → Runs v l a s m (rolls s₁) us → Runs v l (block a b) s m (rolls s₁) us
  run_then : {l : List Query} {e : Expr} {a b : Stmt} {s m : List ℕ} {o : End} {us : List Update}
      → truth (evaluate v m e) ≡ true → Runs v l a s m o us → Runs v l (if e a b) s m o us
  run_else : {l : List Query} {e : Expr} {a b : Stmt} {s m : List ℕ} {o : End} {us : List Update}
      → truth (evaluate v m e) ≡ false → Runs v l b s m o us → Runs v l (if e a b) s m o us
  run_stop : {l : List Query} {e : Expr} {a : Stmt} {s m : List ℕ} → truth (evaluate v m e) ≡ false → Runs v l (while e a) s m (ends s m) []
  run_more : {l : List Query} {e : Expr} {a : Stmt} {s m s₁ m₁ : List ℕ} {o : End} {us vs : List Update}
      → truth (evaluate v m e) ≡ true → Runs v l a s m (ends s₁ m₁) us → Runs v l (while e a) s₁ m₁ o vs → Runs v l (while e a) s m o (us ++ vs)
  run_more_rolls : {l : List Query} {e : Expr} {a : Stmt} {s m s₁ : List ℕ} {us : List Update}
      → truth (evaluate v m e) ≡ true → Runs v l a s m (rolls s₁) us → Runs v l (while e a) s m (rolls s₁) us
  run_holds : {l : List Query} {at : ℕ} {q : Query} {a b : Stmt} {s m : List ℕ} {o : End} {us : List Update}
      → holds s q ≡ true → Runs v l a s m o us → Runs v l (query at q a b) s m o us
  run_fails : {l : List Query} {at : ℕ} {q : Query} {a b : Stmt} {s m : List ℕ} {o : End} {us : List Update}
      → holds s q ≡ false → Runs v l b s m o us → Runs v l (query at q a b) s m o us
  run_update : {l : List Query} {at : ℕ} {ms : List Mutation} {s m : List ℕ}
      → broken l s (mutate_all s ms) ≡ false → Runs v l (update at ms) s m (ends (mutate_all s ms) m) (update_of s ms ∷ [])
  run_update_rolls : {l : List Query} {at : ℕ} {ms : List Mutation} {s m : List ℕ}
      → broken l s (mutate_all s ms) ≡ true → Runs v l (update at ms) s m (rolls (mutate_all s ms)) (update_of s ms ∷ [])
  run_transaction : {l qs : List Query} {at start end : ℕ} {a : Stmt} {s m s₁ m₁ : List ℕ} {us : List Update}
      → Runs v qs a s m (ends s₁ m₁) us → Runs v l (transaction at start end qs a) s m (ends s₁ m₁) us
  run_again : {l qs : List Query} {at start end : ℕ} {a : Stmt} {s m s₁ s₂ m₂ : List ℕ} {us vs : List Update}
      → Runs v qs a s m (rolls s₁) us → Runs v l (transaction at start end qs a) s₁ m (ends s₂ m₂) vs
      → Runs v l (transaction at start end qs a) s m (ends s₂ m₂) (us ++ vs)

-- in a program of some version
module _ (v : ℕ) where
  -- what a result says
  abbrev pub Says : List Query → Stmt → List ℕ → List ℕ → Result → Type 0
  Says l x s m (done s₁ m₁ us left) = Runs v l x s m (ends s₁ m₁) us
  Says l x s m (rolled s₁ us left) = Runs v l x s m (rolls s₁) us
  Says l x s m (spent us) = Unit {0}

  says_block : (l : List Query) (a b : Stmt) (s m : List ℕ) (r : Result) (rest : List ℕ → List ℕ → ℕ → Result)
      → Says l a s m r → ((s₁ m₁ : List ℕ) (f : ℕ) → Says l b s₁ m₁ (rest s₁ m₁ f)) → Says l (block a b) s m (and_then r rest)
  unfolding and_then after
  says_block l a b s m (done s₁ m₁ us f) rest d h = go (rest s₁ m₁ f) (h s₁ m₁ f)
    where
      go : (r : Result) → Says l b s₁ m₁ r → Says l (block a b) s m (after us r)
      go (done s₂ m₂ vs left) e = run_block d e
      go (rolled s₂ vs left) e = run_block d e
      go (spent vs) e = tt
  says_block l a b s m (rolled s₁ us f) rest d h = run_block_rolls d
  says_block l a b s m (spent us) rest d h = tt

  says_more : (l : List Query) (e : Expr) (a : Stmt) (s m : List ℕ) → truth (evaluate v m e) ≡ true → (r : Result) (rest : List ℕ → List ℕ → ℕ → Result)
      → Says l a s m r → ((s₁ m₁ : List ℕ) (f : ℕ) → Says l (while e a) s₁ m₁ (rest s₁ m₁ f)) → Says l (while e a) s m (and_then r rest)
  unfolding and_then after
  says_more l e a s m t (done s₁ m₁ us f) rest d h = go (rest s₁ m₁ f) (h s₁ m₁ f)
    where
      go : (r : Result) → Says l (while e a) s₁ m₁ r → Says l (while e a) s m (after us r)
      go (done s₂ m₂ vs left) k = run_more t d k
      go (rolled s₂ vs left) k = run_more t d k
      go (spent vs) k = tt
  says_more l e a s m t (rolled s₁ us f) rest d h = run_more_rolls t d
  says_more l e a s m t (spent us) rest d h = tt

  -- what a body does, for any fuel
  abbrev Body : List Query → Stmt → (ℕ → List ℕ → List ℕ → Result) → Type 0
  Body l a body = (f : ℕ) (s m : List ℕ) → Says l a s m (body f s m)

  says_loop : (l : List Query) (e : Expr) (a : Stmt) (body : ℕ → List ℕ → List ℕ → Result) → Body l a body
      → (n f : ℕ) (s m : List ℕ) → Says l (while e a) s m (loop v e body n f s m)
  unfolding loop
  says_loop l e a body h zero f s m = tt
  says_loop l e a body h (suc n) zero s m = tt
  says_loop l e a body h (suc n) (suc f) s m = go (says_loop l e a body h n) (truth (evaluate v m e)) refl
    where
      go : ((f : ℕ) (s m : List ℕ) → Says l (while e a) s m (loop v e body n f s m)) → (c : Bool) → truth (evaluate v m e) ≡ c
          → Says l (while e a) s m (elim c [ true ↦ and_then (body f s m) (λ s₁ m₁ f₁. loop v e body n f₁ s₁ m₁) | false ↦ done s m [] f ])
      go later true t = says_more l e a s m t (body f s m) _ (h f s m) (λ s₁ m₁ f₁. later f₁ s₁ m₁)
      go later false t = run_stop t

  -- a transaction never ends rolled back
  no_roll : {l qs : List Query} {at start end : ℕ} {a : Stmt} {s m s₁ : List ℕ} {us : List Update} → Runs v l (transaction at start end qs a) s m (rolls s₁) us → ⊥
  no_roll d = elim d [ ]

  says_attempt : (l qs : List Query) (at start end : ℕ) (a : Stmt) (body : ℕ → List ℕ → List ℕ → Result) → Body qs a body
      → (n f : ℕ) (s m : List ℕ) → Says l (transaction at start end qs a) s m (attempt body n f s m)
  unfolding attempt after
  says_attempt l qs at start end a body h zero f s m = tt
  says_attempt l qs at start end a body h (suc n) zero s m = tt
  says_attempt l qs at start end a body h (suc n) (suc f) s m = go (says_attempt l qs at start end a body h n) (body f s m) (h f s m)
    where
      again : (s₁ : List ℕ) (us : List Update) → Runs v qs a s m (rolls s₁) us → (r : Result) → Says l (transaction at start end qs a) s₁ m r → Says l (transaction at start end qs a) s m (after us r)
      again s₁ us d (done s₂ m₂ vs left) e = run_again d e
      again s₁ us d (rolled s₂ vs left) e = absurd (no_roll e)
      again s₁ us d (spent vs) e = tt

      go : ((f : ℕ) (s m : List ℕ) → Says l (transaction at start end qs a) s m (attempt body n f s m)) → (r : Result) → Says qs a s m r
          → Says l (transaction at start end qs a) s m (elim r [ done s₁ m₁ us f₁ ↦ done s₁ m₁ us f₁ | rolled s₁ us f₁ ↦ after us (attempt body n f₁ s₁ m) | spent us ↦ spent us ])
      go later (done s₁ m₁ us f₁) d = run_transaction d
      go later (rolled s₁ us f₁) d = again s₁ us d (attempt body n f₁ s₁ m) (later f₁ s₁ m)
      go later (spent us) d = tt

  says_if : (l : List Query) (e : Expr) (a b : Stmt) (s m : List ℕ) (r k : Result) → Says l a s m r → Says l b s m k
      → (c : Bool) → truth (evaluate v m e) ≡ c → Says l (if e a b) s m (elim c [ true ↦ r | false ↦ k ])
  says_if l e a b s m (done _ _ _ _) k d d' true h = run_then h d
  says_if l e a b s m (rolled _ _ _) k d d' true h = run_then h d
  says_if l e a b s m (spent _) k d d' true h = tt
  says_if l e a b s m r (done _ _ _ _) d d' false h = run_else h d'
  says_if l e a b s m r (rolled _ _ _) d d' false h = run_else h d'
  says_if l e a b s m r (spent _) d d' false h = tt

  says_query : (l : List Query) (at : ℕ) (q : Query) (a b : Stmt) (s m : List ℕ) (r k : Result) → Says l a s m r → Says l b s m k
      → (c : Bool) → holds s q ≡ c → Says l (query at q a b) s m (elim c [ true ↦ r | false ↦ k ])
  says_query l at q a b s m (done _ _ _ _) k d d' true h = run_holds h d
  says_query l at q a b s m (rolled _ _ _) k d d' true h = run_holds h d
  says_query l at q a b s m (spent _) k d d' true h = tt
  says_query l at q a b s m r (done _ _ _ _) d d' false h = run_fails h d'
  says_query l at q a b s m r (rolled _ _ _) d d' false h = run_fails h d'
  says_query l at q a b s m r (spent _) d d' false h = tt

  says_update : (l : List Query) (at : ℕ) (ms : List Mutation) (f : ℕ) (s m : List ℕ) (c : Bool) → broken l s (mutate_all s ms) ≡ c
      → Says l (update at ms) s m (elim c [ true ↦ rolled (mutate_all s ms) (update_of s ms ∷ []) f | false ↦ done (mutate_all s ms) m (update_of s ms ∷ []) f ])
  says_update l at ms f s m true h = run_update_rolls h
  says_update l at ms f s m false h = run_update h

  -- what execute returns, the relation derives
  pub execute_runs : (x : Stmt) (l : List Query) (f : ℕ) (s m : List ℕ) → Says l x s m (execute v x l f s m)
  unfolding execute charge
  execute_runs skip l zero s m = tt
  execute_runs skip l (suc f) s m = run_skip
  execute_runs (assign at x e) l zero s m = tt
  execute_runs (assign at x e) l (suc f) s m = run_assign
  execute_runs empty l f s m = run_empty
  execute_runs (block a b) l f s m = says_block l a b s m (execute v a l f s m) _ (execute_runs a l f s m) (λ s₁ m₁ f₁. execute_runs b l f₁ s₁ m₁)
  execute_runs (if e a b) l zero s m = tt
  execute_runs (if e a b) l (suc f) s m = says_if l e a b s m _ _ (execute_runs a l f s m) (execute_runs b l f s m) (truth (evaluate v m e)) refl
  execute_runs (while e a) l f s m = says_loop l e a (execute v a l) (λ f₁ s₁ m₁. execute_runs a l f₁ s₁ m₁) _ f s m
  execute_runs (query at q a b) l zero s m = tt
  execute_runs (query at q a b) l (suc f) s m = says_query l at q a b s m _ _ (execute_runs a l f s m) (execute_runs b l f s m) (holds s q) refl
  execute_runs (update at ms) l zero s m = tt
  execute_runs (update at ms) l (suc f) s m = says_update l at ms f s m (broken l s (mutate_all s ms)) refl
  execute_runs (transaction at start end qs a) l f s m = says_attempt l qs at start end a (λ f₁ s₁ m₁. execute v a qs f₁ s₁ m₁) (λ f₁ s₁ m₁. execute_runs a qs f₁ s₁ m₁) _ f s m
