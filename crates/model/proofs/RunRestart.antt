-- A rollback comes only from an update that failed a listed query, and that update stays among those carried out: so a transaction none of whose updates did has one start.
use Prim.Native.Nat.{ℕ, zero, suc}
use mathlib.Core.Path.{◌≡◌, refl, sym, ◌∙◌}
use mathlib.Core.List.Memᴰ
use mathlib.Core.List.{List, [], Memᴰ}
use mathlib.Core.Bool.{Bool, true, false, true≢false}
use Rattle.model.specs.Syntax.{Query, Expr, Stmt, skip, assign, empty, block, if, while, query, update, transaction}
use Rattle.model.specs.Atoms.{holds}
use Rattle.model.specs.Value.{evaluate, truth}
use Rattle.model.specs.Run.{Update, Result, done, rolled, spent, after, charge, and_then, mutate_all, broken, loop, attempt, execute}
use Rattle.model.specs.Fits.{Each}

-- the updates that were carried out
abbrev pub updates_of : Result → List Update
updates_of (done s m us f) = us
updates_of (rolled s us f) = us
updates_of (spent us) = us

-- none of them failed one of these queries
abbrev pub NoneBroken : List Query → List Update → Type 0
NoneBroken qs us = Each (λ u. broken qs u.before u.after ≡ false) us

-- a result is rolled back only where one of its updates failed one of these queries
data Caused (qs : List Query) : Result → Type 0 where
  by_none : {s m : List ℕ} {us : List Update} {f : ℕ} → Caused qs (done s m us f)
  by : {s : List ℕ} {us : List Update} {f : ℕ} (u : Update) → Memᴰ u us → broken qs u.before u.after ≡ true → Caused qs (rolled s us f)
  never : {us : List Update} → Caused qs (spent us)

abbrev BodyCaused : List Query → (ℕ → List ℕ → List ℕ → Result) → Type 0
BodyCaused qs body = (f : ℕ) (s m : List ℕ) → Caused qs (body f s m)

module _ {qs : List Query} where
  after_caused : (us : List Update) {x : Result} → Caused qs x → Caused qs (after us x)
  unfolding after
  after_caused us by_none = by_none
  after_caused us (by u i h) = by u (Memᴰ.append_right us i) h
  after_caused us never = never

  then_caused : {x : Result} {rest : List ℕ → List ℕ → ℕ → Result} → Caused qs x → ((s m : List ℕ) (f : ℕ) → Caused qs (rest s m f)) → Caused qs (and_then x rest)
  unfolding and_then
  then_caused (by_none {s = s} {m = m} {us = us} {f = f}) k = after_caused us (k s m f)
  then_caused (by u i h) k = by u i h
  then_caused never k = never

  pick_caused : {x y : Result} (b : Bool) → (b ≡ true → Caused qs x) → Caused qs y → Caused qs (elim b [ true ↦ x | false ↦ y ])
  pick_caused true h k = h refl
  pick_caused false h k = k

  charge_caused : (f : ℕ) {rest : ℕ → Result} → ((left : ℕ) → Caused qs (rest left)) → Caused qs (charge f rest)
  unfolding charge
  charge_caused zero h = never
  charge_caused (suc f) h = h f

  loop_caused : (v : ℕ) (e : Expr) {body : ℕ → List ℕ → List ℕ → Result} → BodyCaused qs body → (n : ℕ) → BodyCaused qs (loop v e body n)
  unfolding loop
  loop_caused v e h zero f s m = never
  loop_caused v e h (suc n) zero s m = never
  loop_caused v e h (suc n) (suc f) s m = pick_caused (truth (evaluate v m e)) (λ _. then_caused (h f s m) (λ s₁ m₁ f₁. loop_caused v e h n f₁ s₁ m₁)) by_none

  -- a transaction begins again, and is itself never rolled back
  attempt_caused : (body : ℕ → List ℕ → List ℕ → Result) (n : ℕ) → BodyCaused qs (attempt body n)
  unfolding attempt
  attempt_caused body zero f s m = never
  attempt_caused body (suc n) zero s m = never
  attempt_caused body (suc n) (suc f) s m = again (attempt_caused body n) (body f s m)
    where
      again : BodyCaused qs (attempt body n) → (x : Result)
          → Caused qs (elim x [ done s₁ m₁ us f₁ ↦ done s₁ m₁ us f₁ | rolled s₁ us f₁ ↦ after us (attempt body n f₁ s₁ m) | spent us ↦ spent us ])
      again k (done s₁ m₁ us f₁) = by_none
      again k (rolled s₁ us f₁) = after_caused us (k f₁ s₁ m)
      again k (spent us) = never

module _ (v : ℕ) where
  caused : (x : Stmt) (listed : List Query) → BodyCaused listed (execute v x listed)
  unfolding execute
  caused skip listed f s m = charge_caused f (λ left. by_none)
  caused (assign at x e) listed f s m = charge_caused f (λ left. by_none)
  caused empty listed f s m = by_none
  caused (block a b) listed f s m = then_caused (caused a listed f s m) (λ s₁ m₁ f₁. caused b listed f₁ s₁ m₁)
  caused (if e a b) listed f s m = charge_caused f (λ left. pick_caused (truth (evaluate v m e)) (λ _. caused a listed left s m) (caused b listed left s m))
  caused (while e a) listed f s m = loop_caused v e (caused a listed) _ f s m
  caused (query at q a b) listed f s m = charge_caused f (λ left. pick_caused (holds s q) (λ _. caused a listed left s m) (caused b listed left s m))
  caused (update at ms) listed f s m = charge_caused f (λ left. pick_caused (broken listed s (mutate_all s ms)) (λ h. by _ (Memᴰ.head refl) h) by_none)
  caused (transaction at start end qs a) listed f s m = attempt_caused (λ f₁ s₁ m₁. execute v a qs f₁ s₁ m₁) _ f s m

  -- a statement none of whose updates failed a listed query is not rolled back
  pub no_break_no_rollback : (x : Stmt) (listed : List Query) (f : ℕ) (s m : List ℕ) → NoneBroken listed (updates_of (execute v x listed f s m))
      → (s₁ : List ℕ) (us : List Update) (left : ℕ) → execute v x listed f s m ≡ rolled s₁ us left → ⊥
  no_break_no_rollback x listed f s m none s₁ us left e = contradiction (rw e at (caused x listed f s m)) (rw e at none)
    where
      contradiction : Caused listed (rolled s₁ us left) → NoneBroken listed us → ⊥
      contradiction (by u i h) k = true≢false (sym h ∙ k u i)

  -- so a program's body, around which no transaction lists a query, never is
  pub body_not_rolled : (x : Stmt) (f : ℕ) (s m s₁ : List ℕ) (us : List Update) (left : ℕ) → execute v x [] f s m ≡ rolled s₁ us left → ⊥
  unfolding broken
  body_not_rolled x f s m = no_break_no_rollback x [] f s m (λ u i. refl)

-- what was carried out before a restart stays among the updates
among : (us : List Update) (y : Result) {u : Update} → Memᴰ u us → Memᴰ u (updates_of (after us y))
unfolding after
among us (done s₁ m₁ vs f₁) i = Memᴰ.append_left vs i
among us (rolled s₁ vs f₁) i = Memᴰ.append_left vs i
among us (spent vs) i = Memᴰ.append_left vs i

-- so a body none of whose updates failed a listed query is started once, whatever the bound
one_start : {qs : List Query} (body : ℕ → List ℕ → List ℕ → Result) (n f : ℕ) (s m : List ℕ) → Caused qs (body f s m)
    → NoneBroken qs (updates_of (attempt body (suc n) (suc f) s m)) → attempt body (suc n) (suc f) s m ≡ body f s m
unfolding attempt
one_start {qs} body n f s m = once
  where
    again : Result → Result
    again x = elim x [ done s₁ m₁ us f₁ ↦ done s₁ m₁ us f₁ | rolled s₁ us f₁ ↦ after us (attempt body n f₁ s₁ m) | spent us ↦ spent us ]

    once : {x : Result} → Caused qs x → NoneBroken qs (updates_of (again x)) → again x ≡ x
    once by_none none = refl
    once (by {s = s₁} {us = us} {f = f₁} u i h) none = absurd (true≢false (sym h ∙ none u (among us (attempt body n f₁ s₁ m) i)))
    once never none = refl

-- and a transaction is its body, after the one unit of its one start
pub no_break_no_restart : (v at start end : ℕ) (qs : List Query) (a : Stmt) (listed : List Query) (f : ℕ) (s m : List ℕ)
    → NoneBroken qs (updates_of (execute v (transaction at start end qs a) listed (suc f) s m))
    → execute v (transaction at start end qs a) listed (suc f) s m ≡ execute v a qs f s m
unfolding execute
no_break_no_restart v at start end qs a listed f s m = one_start (execute v a qs) _ f s m (caused v a qs f s m)
