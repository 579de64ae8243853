-- Confinement: where the context or the whole surrounding transaction is hidden, a statement changes no open row and no open variable, since the flow rules put all that it may write above a hidden join (O2); a rollback, too, shows only in a transaction that is hidden as a whole.
use Prim.Native.Nat.{ℕ, ◌<◌}
use native.Mathlib.Omega.{arith}
use mathlib.Core.Path.{◌≡◌, refl, sym, ◌∙◌}
use mathlib.Core.List.Memᴰ
use mathlib.Core.List.{List, [], Memᴰ}
use mathlib.Core.Bool.{true, false}
use Rattle.model.specs.Limits.{variable_limit}
use Rattle.model.specs.Sets.{has}
use Rattle.model.specs.Policy.{Side}
use Rattle.model.specs.Syntax.{of, Atom, Query, Expr, Stmt, assign, while, transaction}
use Rattle.model.specs.Program.{version}
use Rattle.model.specs.Flow.{under_expr, under_query, update_join, assigned, mutated, Around, outside, inside}
use Rattle.model.specs.Value.{evaluate}
use Rattle.model.specs.Run.{Update}
use Rattle.model.proofs.Along.{listed_of, Stands, rule, RunsIn, Known, nothing_known, all_hold, known_stays}
use Rattle.model.specs.Fits.{Each}
use Rattle.model.proofs.FlowParts.{ListedHold, UpdatesOn}
use Rattle.model.proofs.Openness.{Setting, is_open, Good, Near, near_sym, near_trans, open_fixed, open_same, Hidden, hidden_near, hidden_in, hides}
use Rattle.model.proofs.Runs.{End, ends, rolls, run_skip, run_assign, run_empty, run_block, run_block_rolls, run_then, run_else, run_stop, run_more, run_more_rolls, run_holds, run_fails, run_update, run_update_rolls, run_transaction, run_again}
use Rattle.model.proofs.States.{label_of, Room, Alike, alike_refl, alike_trans, assign_hidden}
use Rattle.model.proofs.Updates.{RowsHidden, hidden_update}

-- a transaction is hidden under a policy when the rows of all roles that it mutates are, and all variables that it assigns
pub record AllHidden (S : Setting) (xs rs : ℕ) (s : List ℕ) : Type 0 where
  pub rows_hidden : RowsHidden S rs
  pub variables_hidden : (x : ℕ) → x < variable_limit → has xs x ≡ true → is_open S s (label_of S x) ≡ false

abbrev pub HiddenAround : Setting → Around → List ℕ → Type 0
HiddenAround S outside s = ⊥
HiddenAround S (inside listed xs rs) s = AllHidden S xs rs s

pub hidden_around_near : {S : Setting} {a b : List ℕ} (around : Around) → Near S a b → HiddenAround S around a → HiddenAround S around b
hidden_around_near outside n h = h
hidden_around_near {S} (inside listed xs rs) n h = record {
  rows_hidden = h.rows_hidden;
  variables_hidden = λ x l i. sym (open_same n (label_of S x)) ∙ h.variables_hidden x l i;
}

-- why a statement is out of sight
pub data Unseen (S : Setting) (around : Around) (s : List ℕ) (context : List Atom) : Type 0 where
  by_context : Hidden S s context → Unseen S around s context
  by_transaction : HiddenAround S around s → Unseen S around s context

unseen_near : {S : Setting} {around : Around} {a b : List ℕ} {context : List Atom} → Near S a b → Unseen S around a context → Unseen S around b context
unseen_near n (by_context h) = by_context (hidden_near n h)
unseen_near {around} n (by_transaction h) = by_transaction (hidden_around_near around n h)

unseen_in : {S : Setting} {around : Around} {s : List ℕ} {j k : List Atom} → Each (λ a. Memᴰ a k) j → Unseen S around s j → Unseen S around s k
unseen_in f (by_context h) = by_context (hidden_in f h)
unseen_in f (by_transaction h) = by_transaction h

-- under a guard or a query the context only grows
grows_expr : (p : List ℕ) (e : Expr) (context : Side → List Atom) (side : Side) → Each (λ a. Memᴰ a (under_expr p e context side)) (context side)
grows_expr p e context side a i = search Memᴰ.append_right

grows_query : (q : Query) (context : Side → List Atom) (side : Side) → Each (λ a. Memᴰ a (under_query q context side)) (context side)
grows_query q context side a i = search Memᴰ.append_right

-- outside a transaction only the context can be the reason
unseen_into : {S : Setting} {s : List ℕ} {context : List Atom} (around : Around) → Unseen S outside s context → Unseen S around s context
unseen_into around (by_context h) = by_context h
unseen_into around (by_transaction h) = absurd h

-- an end that is out of sight from its start
abbrev pub Calm : Setting → Around → List ℕ → List ℕ → End → Type 0
Calm S around s m (ends t n) = Alike S s m t n
Calm S around s m (rolls t) = Near S s t × HiddenAround S around s

calm_after : {S : Setting} {s m t n : List ℕ} (around : Around) (o : End) → Alike S s m t n → Calm S around t n o → Calm S around s m o
calm_after around (ends u k) a c = alike_trans a c
calm_after around (rolls u) a c = (near_trans a.near c.0, hidden_around_near around (near_sym a.near) c.1)

module _ (S : Setting) where
  -- an update whose join has a hidden atom stands in a hidden transaction
  pub update_hidden : {listed known : List Query} {xs rs : ℕ} {context : Side → List Atom} {s : List ℕ}
      → ((side : Side) → UpdatesOn S.base S.program known context listed xs rs side) → Good S s → ListedHold listed known s
      → Hidden S s (update_join context listed S.side) → AllHidden S xs rs s
  update_hidden k g w h = record {
    rows_hidden = λ r l i. sym (open_fixed g (of S.side r)) ∙ hides g (λ q j. (w q j).1) ((k S.side).roles_above r l i) h;
    variables_hidden = λ x l i. hides g (λ q j. (w q j).1) ((k S.side).variables_above x l i) h;
  }

  update_unseen : {listed known : List Query} {xs rs : ℕ} {context : Side → List Atom} {s : List ℕ}
      → ((side : Side) → UpdatesOn S.base S.program known context listed xs rs side) → Good S s → ListedHold listed known s
      → Unseen S (inside listed xs rs) s (context S.side) → AllHidden S xs rs s
  update_unseen k g w (by_context h) = update_hidden k g w (hidden_in (λ a i. search Memᴰ.append_left) h)
  update_unseen k g w (by_transaction h) = h

  -- an assignment out of sight is to a hidden variable
  assign_unseen : {around : Around} {known : List Query} {context : Side → List Atom} {at x : ℕ} {e : Expr} {s : List ℕ}
      → Stands S around known context (assign at x e) → Good S s → Known around known s → Unseen S around s (context S.side) → is_open S s (label_of S x) ≡ false
  assign_unseen {around} {known} {s} h g w (by_context y) = hides g (all_hold around known s w) ((rule S h).1 S.side).context_below y
  assign_unseen {around = outside} h g w (by_transaction y) = absurd y
  assign_unseen {around = inside _ _ _} {x} h g w (by_transaction y) = y.variables_hidden x (omega (arith, h.fits.0, S.few)) (rule S h).0

  -- (the list of queries stands apart from what surrounds the statement, and an equation ties them: so the run can be taken apart)
  pub confined_from : {l : List Query} {x : Stmt} {s m : List ℕ} {o : End} {us : List Update} {around : Around} {known : List Query} {context : Side → List Atom}
      → Stands S around known context x → RunsIn S l x s m o us → l ≡ listed_of around → Good S s → Room S m → Known around known s → Unseen S around s (context S.side) → Calm S around s m o
  confined_from h run_skip i g r w y = alike_refl g r
  confined_from h (run_assign {m = m} {x = x} {e = e}) i g r w y = assign_hidden x (evaluate (version S.program) m e) g r (assign_unseen h g w y)
  confined_from h run_empty i g r w y = alike_refl g r
  confined_from {around} h (run_block {o = o} d e) i g r w y =
      let a = confined_from (rule S h).0 d i g r w y in
      calm_after around o a (confined_from (rule S h).1 e i a.near.good2 a.room2 (known_stays S (rule S h).0 d i w) (unseen_near a.near y))
  confined_from h (run_block_rolls d) i g r w y = confined_from (rule S h).0 d i g r w y
  confined_from {context} h (run_then {e = e} t d) i g r w y = confined_from (rule S h).0 d i g r w (unseen_in (grows_expr S.program e context S.side) y)
  confined_from {context} h (run_else {e = e} t d) i g r w y = confined_from (rule S h).1 d i g r w (unseen_in (grows_expr S.program e context S.side) y)
  confined_from h (run_stop t) i g r w y = alike_refl g r
  confined_from {around} {context} h (run_more {e = e} {o = o} t d f) i g r w y =
      let a = confined_from (rule S h) d i g r w (unseen_in (grows_expr S.program e context S.side) y) in
      calm_after around o a (confined_from h f i a.near.good2 a.room2 (known_stays S (rule S h) d i w) (unseen_near a.near y))
  confined_from {context} h (run_more_rolls {e = e} t d) i g r w y = confined_from (rule S h) d i g r w (unseen_in (grows_expr S.program e context S.side) y)
  confined_from {around = outside} h (run_holds t d) i g r w y = absurd (rule S h)
  confined_from {s} {around = inside _ _ _} {context} h (run_holds {q = q} t d) i g r w y = confined_from (rule S h).0.placed d i g r ((rule S h).0.knows_true s t w) (unseen_in (grows_query q context S.side) y)
  confined_from {around = outside} h (run_fails t d) i g r w y = absurd (rule S h)
  confined_from {s} {around = inside _ _ _} {context} h (run_fails {q = q} t d) i g r w y = confined_from (rule S h).1.placed d i g r ((rule S h).1.knows_true s t w) (unseen_in (grows_query q context S.side) y)
  confined_from {around = outside} h (run_update t) i g r w y = absurd (rule S h)
  confined_from {around = inside _ _ _} h (run_update {ms = ms} t) i g r w y =
      let v = update_unseen (rule S h).1 g w y in
      record { near = hidden_update ms (rule S h).0 g v.rows_hidden; room1 = r; room2 = r; values = λ x l o. refl }
  confined_from {around = outside} h (run_update_rolls t) i g r w y = absurd (rule S h)
  confined_from {around = inside _ _ _} h (run_update_rolls {ms = ms} t) i g r w y =
      let v = update_unseen (rule S h).1 g w y in
      (hidden_update ms (rule S h).0 g v.rows_hidden, v)
  confined_from {s} {around = outside} h (run_transaction {qs = qs} {a = a} d) i g r w y = confined_from (rule S h) d refl g r (nothing_known qs s w) (unseen_into (inside qs (assigned a) (mutated a)) y)
  confined_from {around = inside _ _ _} h (run_transaction d) i g r w y = absurd (rule S h)
  confined_from {s} {around = outside} h (run_again {qs = qs} {a = a} d e) i g r w y =
      let c = confined_from (rule S h) d refl g r (nothing_known qs s w) (unseen_into (inside qs (assigned a) (mutated a)) y) in
      alike_trans (record { near = c.0; room1 = r; room2 = r; values = λ x l o. refl }) (confined_from h e i c.0.good2 r w (unseen_near c.0 y))
  confined_from {around = inside _ _ _} h (run_again d e) i g r w y = absurd (rule S h)

  pub confined : {around : Around} {known : List Query} {context : Side → List Atom} {x : Stmt} {s m : List ℕ} {o : End} {us : List Update}
      → Stands S around known context x → RunsIn S (listed_of around) x s m o us → Good S s → Room S m → Known around known s → Unseen S around s (context S.side) → Calm S around s m o
  confined h d g r w y = confined_from h d refl g r w y

  -- a loop whose body is out of sight

  pub confined_loop_from : {l : List Query} {e : Expr} {x : Stmt} {s m : List ℕ} {o : End} {us : List Update} {around : Around} {known : List Query} {context : Side → List Atom}
      → Stands S around known context x → RunsIn S l (while e x) s m o us → l ≡ listed_of around → Good S s → Room S m → Known around known s
      → Unseen S around s (context S.side) → Calm S around s m o
  confined_loop_from h (run_stop t) i g r w y = alike_refl g r
  confined_loop_from {around} h (run_more {o = o} t d f) i g r w y =
      let a = confined_from h d i g r w y in
      calm_after around o a (confined_loop_from h f i a.near.good2 a.room2 (known_stays S h d i w) (unseen_near a.near y))
  confined_loop_from h (run_more_rolls t d) i g r w y = confined_from h d i g r w y

  pub confined_loop : {around : Around} {known : List Query} {context : Side → List Atom} {e : Expr} {x : Stmt} {s m : List ℕ} {o : End} {us : List Update}
      → Stands S around known context x → RunsIn S (listed_of around) (while e x) s m o us → Good S s → Room S m → Known around known s
      → Unseen S around s (context S.side) → Calm S around s m o
  confined_loop h d g r w y = confined_loop_from h d refl g r w y

  -- a whole transaction that is hidden, with its restarts
  pub confined_transaction : {l qs known : List Query} {at start end : ℕ} {context : Side → List Atom} {x : Stmt} {s m s₁ m₁ : List ℕ} {us : List Update}
      → Stands S (inside qs (assigned x) (mutated x)) known context x → known ≡ [] → RunsIn S l (transaction at start end qs x) s m (ends s₁ m₁) us → Good S s → Room S m
      → AllHidden S (assigned x) (mutated x) s → Alike S s m s₁ m₁
  confined_transaction {qs} {s} h w (run_transaction d) g r v = confined h d g r (nothing_known qs s w) (by_transaction v)
  confined_transaction {qs} {x} {s} h w (run_again d e) g r v =
      let c = confined h d g r (nothing_known qs s w) (by_transaction v) in
      alike_trans (record { near = c.0; room1 = r; room2 = r; values = λ y l o. refl })
      (confined_transaction h w e c.0.good2 r (hidden_around_near (inside qs (assigned x) (mutated x)) c.0 v))
