-- A statement is spent exactly when a unit is wanted with none left, and so is a run: by the equations of a while and of a transaction in which no bound stands, by recursion on the statement and, for these two, on the fuel.
use Prim.Native.Nat.{ℕ, zero, suc, ◌≤◌}
use native.Mathlib.Omega.{arith}
use mathlib.Core.Path.{◌≡◌, refl, ◌∙◌, ap}
use mathlib.Core.List.{List, [], ◌++◌}
use mathlib.Core.Bool.{Bool, true, false, false≢true}
use Rattle.model.specs.Number.{fuel_spent}
use Rattle.model.specs.Syntax.{Query, Expr, Stmt, skip, assign, empty, block, if, while, query, update, transaction}
use Rattle.model.specs.Program.{version}
use Rattle.model.specs.Atoms.{holds}
use Rattle.model.specs.Value.{evaluate, truth}
use Rattle.model.specs.Run.{Update, Result, done, rolled, spent, after, charge, and_then, mutate_all, broken, execute, Outcome, finish, run}
use Rattle.model.specs.Spent.{costs, Wanted, at_once, in_first, in_rest, in_then, in_else, in_body, in_next, in_holds, in_fails, in_transaction, in_restart}
use Rattle.model.proofs.RunLaws.{Begins, run_is, Ran, refuses, finishes, spends, ran}
use Rattle.model.proofs.RunPolicy.{Goes, to, back, nowhere}
use Rattle.model.proofs.Bound.{restarts, runs_down, while_again, transaction_again}

-- where a result is spent, a unit is wanted with none left
data Says (v : ℕ) (l : List Query) (x : Stmt) (f : ℕ) (s m : List ℕ) : Result → Type 0 where
  ended : {s₁ m₁ : List ℕ} {us : List Update} {g : ℕ} → Says v l x f s m (done s₁ m₁ us g)
  went_back : {s₁ : List ℕ} {us : List Update} {g : ℕ} → Says v l x f s m (rolled s₁ us g)
  ran_out : {us : List Update} → Wanted v l x f s m us → Says v l x f s m (spent us)

-- so it is with every run of a statement
abbrev AllSay : ℕ → List Query → Stmt → Type 0
AllSay v l x = (f : ℕ) (s m : List ℕ) → Says v l x f s m (execute v x l f s m)

-- where what one statement wants another wants too, after these updates, so it is with their results
module _ {v : ℕ} {k l : List Query} {x y : Stmt} {f g : ℕ} {s m t n : List ℕ} where
  says_by : {r : Result} → ((vs : List Update) → Wanted v l y g t n vs → Wanted v k x f s m vs) → Says v l y g t n r → Says v k x f s m r
  says_by h ended = ended
  says_by h went_back = went_back
  says_by h (ran_out {us = vs} d) = ran_out (h vs d)

  says_after : {r : Result} (us : List Update) → ((vs : List Update) → Wanted v l y g t n vs → Wanted v k x f s m (us ++ vs)) → Says v l y g t n r → Says v k x f s m (after us r)
  unfolding after
  says_after us h ended = ended
  says_after us h went_back = went_back
  says_after us h (ran_out {us = vs} d) = ran_out (h vs d)

module _ {v : ℕ} {l : List Query} {x : Stmt} {s m : List ℕ} where
  says_pick : {f : ℕ} {r k : Result} (c : Bool) → (c ≡ true → Says v l x f s m r) → (c ≡ false → Says v l x f s m k) → Says v l x f s m (elim c [ true ↦ r | false ↦ k ])
  says_pick true h k = h refl
  says_pick false h k = k refl

  says_charge : (f : ℕ) {rest : ℕ → Result} → costs x ≡ true → ((left : ℕ) → f ≡ suc left → Says v l x (suc left) s m (rest left)) → Says v l x f s m (charge f rest)
  unfolding charge
  says_charge zero c h = ran_out (at_once c)
  says_charge (suc f) c h = h f refl

-- what a result leaves
abbrev left : Result → ℕ
left (done s₁ m₁ us g) = g
left (rolled s₁ us g) = g
left (spent us) = 0

left_within : {R : List ℕ → List ℕ → Type 0} {f : ℕ} {s m : List ℕ} {x : Result} → Goes R f s m x → left x ≤ f
left_within (to l r e) = l
left_within (back l r) = l
left_within nowhere = omega arith

module _ {v : ℕ} {l : List Query} where
  says_block : {a b : Stmt} {f : ℕ} {s m : List ℕ} → AllSay v l b → (r : Result) → execute v a l f s m ≡ r → Says v l a f s m r → Says v l (block a b) f s m (and_then r (λ s₁ m₁ f₁. execute v b l f₁ s₁ m₁))
  unfolding and_then
  says_block h (done s₁ m₁ us g) e d = says_after us (λ vs. in_rest e) (h g s₁ m₁)
  says_block h (rolled s₁ us g) e d = went_back
  says_block h (spent us) e (ran_out d) = ran_out (in_first d)

  -- what follows a body says so, where what is done again does with the fuel that is left
  says_round : {e : Expr} {a : Stmt} {f : ℕ} {s m : List ℕ} → truth (evaluate v m e) ≡ true
      → ((g : ℕ) → g ≤ f → (t n : List ℕ) → Says v l (while e a) g t n (execute v (while e a) l g t n)) → (r : Result) → execute v a l f s m ≡ r → Says v l a f s m r
      → Says v l (while e a) (suc f) s m (and_then r (λ s₁ m₁ f₁. execute v (while e a) l f₁ s₁ m₁))
  unfolding and_then
  says_round {a = a} {f = f} {s = s} {m = m} t later (done s₁ m₁ us g) e d = says_after us (λ vs. in_next t e) (later g (left_within (rw e at (runs_down v a l f s m))) s₁ m₁)
  says_round t later (rolled s₁ us g) e d = went_back
  says_round t later (spent us) e (ran_out d) = ran_out (in_body t d)

  says_start : {at start end : ℕ} {qs : List Query} {a : Stmt} {f : ℕ} {s m : List ℕ}
      → ((g : ℕ) → g ≤ f → (t n : List ℕ) → Says v l (transaction at start end qs a) g t n (execute v (transaction at start end qs a) l g t n)) → (r : Result) → execute v a qs f s m ≡ r → Says v qs a f s m r
      → Says v l (transaction at start end qs a) (suc f) s m (restarts r m (execute v (transaction at start end qs a) l))
  says_start later (done s₁ m₁ us g) e d = ended
  says_start {qs = qs} {a = a} {f = f} {s = s} {m = m} later (rolled s₁ us g) e d = says_after us (λ vs. in_restart e) (later g (left_within (rw e at (runs_down v a qs f s m))) s₁ m)
  says_start later (spent us) e (ran_out d) = ran_out (in_transaction d)

  -- n is a number that the fuel does not exceed, to recurse on
  says_while : (e : Expr) (a : Stmt) → AllSay v l a → (n f : ℕ) → f ≤ n → (s m : List ℕ) → Says v l (while e a) f s m (execute v (while e a) l f s m)
  says_while e a h zero f k s m = rw (while_again v e a l f s m) (says_charge f refl (λ g q. absurd (omega arith)))
  says_while e a h (suc n) f k s m =
      rw (while_again v e a l f s m) (says_charge f refl (λ g q. says_pick (truth (evaluate v m e))
      (λ t. says_round t (λ i b. says_while e a h n i (omega arith)) (execute v a l g s m) refl (h g s m)) (λ t. ended)))

  says_transaction : (at start end : ℕ) (qs : List Query) (a : Stmt) → AllSay v qs a
      → (n f : ℕ) → f ≤ n → (s m : List ℕ) → Says v l (transaction at start end qs a) f s m (execute v (transaction at start end qs a) l f s m)
  says_transaction at start end qs a h zero f k s m = rw (transaction_again v at start end qs a l f s m) (says_charge f refl (λ g q. absurd (omega arith)))
  says_transaction at start end qs a h (suc n) f k s m =
      rw (transaction_again v at start end qs a l f s m)
      (says_charge f refl (λ g q. says_start (λ i b. says_transaction at start end qs a h n i (omega arith)) (execute v a qs g s m) refl (h g s m)))

module _ (v : ℕ) where
  says : (x : Stmt) (l : List Query) → AllSay v l x
  unfolding execute
  says skip l f s m = says_charge f refl (λ left q. ended)
  says (assign at x e) l f s m = says_charge f refl (λ left q. ended)
  says empty l f s m = ended
  says (block a b) l f s m = says_block (says b l) (execute v a l f s m) refl (says a l f s m)
  says (if e a b) l f s m =
      says_charge f refl (λ left q. says_pick (truth (evaluate v m e)) (λ t. says_by (λ vs. in_then t) (says a l left s m)) (λ t. says_by (λ vs. in_else t) (says b l left s m)))
  says (while e a) l f s m = says_while e a (says a l) f f (omega arith) s m
  says (query at k a b) l f s m =
      says_charge f refl (λ left q. says_pick (holds s k) (λ t. says_by (λ vs. in_holds t) (says a l left s m)) (λ t. says_by (λ vs. in_fails t) (says b l left s m)))
  says (update at ms) l f s m = says_charge f refl (λ left q. says_pick (broken l s (mutate_all s ms)) (λ t. went_back) (λ t. ended))
  says (transaction at start end qs a) l f s m = says_transaction at start end qs a (says a qs) f f (omega arith) s m

  -- spent, a statement wanted a unit with none left
  pub spent_wanted : (x : Stmt) (l : List Query) (f : ℕ) (s m : List ℕ) (us : List Update) → execute v x l f s m ≡ spent us → Wanted v l x f s m us
  spent_wanted x l f s m us e = out (rw e at (says x l f s m))
    where
      out : Says v l x f s m (spent us) → Wanted v l x f s m us
      out (ran_out d) = d

  -- one that begins with a unit is spent when there is none
  none_spent : (x : Stmt) (l : List Query) (s m : List ℕ) → costs x ≡ true → execute v x l 0 s m ≡ spent []
  unfolding execute charge
  none_spent skip l s m c = refl
  none_spent (assign at x e) l s m c = refl
  none_spent empty l s m c = absurd (false≢true c)
  none_spent (block a b) l s m c = absurd (false≢true c)
  none_spent (if e a b) l s m c = refl
  none_spent (while e a) l s m c = while_again v e a l 0 s m
  none_spent (query at q a b) l s m c = refl
  none_spent (update at ms) l s m c = refl
  none_spent (transaction at start end qs a) l s m c = transaction_again v at start end qs a l 0 s m

  -- and a statement that wants a unit with none left is spent
  pub wanted_spent : {x : Stmt} {l : List Query} {f : ℕ} {s m : List ℕ} {us : List Update} → Wanted v l x f s m us → execute v x l f s m ≡ spent us
  unfolding execute charge and_then after
  wanted_spent (at_once {l} {x} {s} {m} c) = none_spent x l s m c
  wanted_spent (in_first d) = rw (wanted_spent d)
  wanted_spent (in_rest e d) = rw (e, wanted_spent d)
  wanted_spent (in_then t d) = rw t (wanted_spent d)
  wanted_spent (in_else t d) = rw t (wanted_spent d)
  wanted_spent (in_body {l} {e} {a} {f} {s} {m} t d) = while_again v e a l (suc f) s m ∙ rw (t, wanted_spent d)
  wanted_spent (in_next {l} {e} {a} {f} {s = s} {m = m} t q d) = while_again v e a l (suc f) s m ∙ rw (t, q, wanted_spent d)
  wanted_spent (in_holds t d) = rw t (wanted_spent d)
  wanted_spent (in_fails t d) = rw t (wanted_spent d)
  wanted_spent (in_transaction {l} {qs} {at} {start} {end} {a} {f} {s} {m} d) = transaction_again v at start end qs a l (suc f) s m ∙ rw (wanted_spent d)
  wanted_spent (in_restart {l} {qs} {at} {start} {end} {a} {f} {s = s} {m = m} q d) = transaction_again v at start end qs a l (suc f) s m ∙ rw (q, wanted_spent d)

module _ (s p m : List ℕ) (f : ℕ) where
  -- a run is spent only when its body wants a unit with none left
  pub run_spent_wanted : (run s p m f).number ≡ fuel_spent → (b : Begins s p m f) × Wanted (version p) [] b.program.body f s m (run s p m f).updates
  run_spent_wanted = go (ran s p m f)
    where
      go : {o : Outcome} → Ran s p m f o → o.number ≡ fuel_spent → (b : Begins s p m f) × Wanted (version p) [] b.program.body f s m o.updates
      go (refuses k some few) h = absurd (omega arith)
      go (finishes b e) h = absurd (omega arith)
      go (spends b {us = us} e) h = (b, spent_wanted (version p) b.program.body [] f s m us e)

  -- and then it is
  pub run_wanted_spent : (b : Begins s p m f) {us : List Update} → Wanted (version p) [] b.program.body f s m us
      → run s p m f ≡ record { number = fuel_spent; units = f; policy = s; memory = m; updates = us }
  unfolding finish
  run_wanted_spent b d = run_is s p m f b ∙ ap (finish s m f) (wanted_spent (version p) d)
