-- Two runs in step: from alike states both runs of an accepted statement end alike, or the surrounding transaction is hidden; for where their guards differ the label is hidden and both are confined, and where their rollbacks differ a listed query's label is, which hides the transaction.
use Prim.Native.Nat.{ℕ}
use mathlib.Core.Path.{◌≡◌, refl, sym, ap, ◌∙◌, subst}
use mathlib.Core.Logic.{◌⊎◌, inl, inr, ⊎_elim}
use mathlib.Core.List.Memᴰ
use mathlib.Core.List.{List, []}
use mathlib.Core.Bool.{Bool, true, false}
use Rattle.model.specs.Policy.{Side}
use Rattle.model.specs.Mutation.{Mutation}
use Rattle.model.specs.Syntax.{Atom, Query, Expr, Stmt, assign, while, transaction}
use Rattle.model.specs.Program.{version, variables}
use Rattle.model.specs.Flow.{expr_label, query_label, list_label, under_expr, under_query, assigned, mutated, Around, outside, inside}
use Rattle.model.specs.Atoms.{holds}
use Rattle.model.specs.Value.{evaluate, truth, set_value}
use Rattle.model.specs.Run.{Update, mutate_all, broken}
use Rattle.model.specs.Claim.{NoGain}
use Rattle.model.proofs.Along.{listed_of, Stands, rule, RunsIn, Known, nothing_known, all_hold, no_gain_first, no_gain_later, alike_shown, known_stays, update_shows, hidden_along, rows_stay}
use Rattle.model.proofs.Confined.{AllHidden, HiddenAround, hidden_around_near, by_context, Calm, update_hidden, confined_from, confined_loop_from, confined_transaction}
use Rattle.model.specs.Fits.{Each, ExprFits}
use Rattle.model.proofs.FlowParts.{ListedHold, Mutates, UpdatesOn}
use Rattle.model.proofs.Openness.{Setting, Good, Near, near_sym, Hidden, hidden_or_open, hidden_near, hidden_in, hides, query_same, broken_same}
use Rattle.model.proofs.Runs.{End, ends, rolls, run_skip, run_assign, run_empty, run_block, run_block_rolls, run_then, run_else, run_stop, run_more, run_more_rolls, run_holds, run_fails, run_update, run_update_rolls, run_transaction, run_again}
use Rattle.model.proofs.Sees.{clash}
use Rattle.model.proofs.States.{Alike, alike_sym, alike_trans, evaluate_same, assign_same}
use Rattle.model.proofs.Updates.{update_near}

-- two ends that are alike
abbrev pub Match : Setting → End → End → Type 0
Match S (ends s m) (ends t n) = Alike S s m t n
Match S (ends s m) (rolls t) = ⊥
Match S (rolls s) (ends t n) = ⊥
Match S (rolls s) (rolls t) = Near S s t

abbrev pub InStep : Setting → Around → List ℕ → End → End → Type 0
InStep S around s a b = HiddenAround S around s ⊎ Match S a b

-- two runs that are both out of sight
calm_two : {S : Setting} {s m t n : List ℕ} (around : Around) (a b : End) → Alike S s m t n → Calm S around s m a → Calm S around t n b → InStep S around s a b
calm_two around (ends _ _) (ends _ _) k c d = inr (alike_trans (alike_sym c) (alike_trans k d))
calm_two around (ends _ _) (rolls _) k c d = inl (hidden_around_near around (near_sym k.near) d.1)
calm_two around (rolls _) (ends _ _) k c d = inl c.1
calm_two around (rolls _) (rolls _) k c d = inl c.1

differ : {A : Type 0} {a b : Bool} → a ≡ true → b ≡ false → a ≡ b → A
differ t f e = clash t (e ∙ f)

module _ (S : Setting) where
  -- two statements, such as the branches of one, that stand in a hidden context
  unseen_two : {around : Around} {k l listed : List Query} {context : Side → List Atom} {x y : Stmt} {s m t n : List ℕ} {a b : End} {us vs : List Update}
      → listed ≡ listed_of around → Stands S around k context x → RunsIn S listed x s m a us → Known around k s
      → Stands S around l context y → RunsIn S listed y t n b vs → Known around l t
      → Alike S s m t n → Hidden S s (context S.side) → InStep S around s a b
  unseen_two {around} {a} {b} j h d w i e v k y =
      calm_two around a b k (confined_from S h d j k.near.good1 k.room1 w (by_context y)) (confined_from S i e j k.near.good2 k.room2 v (by_context (hidden_near k.near y)))

  -- two runs of a loop whose body stands in a hidden context
  unseen_loops : {around : Around} {known listed : List Query} {context : Side → List Atom} {e : Expr} {x : Stmt} {s m t n : List ℕ} {a b : End} {us vs : List Update}
      → listed ≡ listed_of around → Stands S around known context x → RunsIn S listed (while e x) s m a us → RunsIn S listed (while e x) t n b vs
      → Known around known s → Known around known t → Alike S s m t n → Hidden S s (context S.side) → InStep S around s a b
  unseen_loops {around} {a} {b} j h d e w v k y =
      calm_two around a b k (confined_loop_from S h d j k.near.good1 k.room1 w (by_context y)) (confined_loop_from S h e j k.near.good2 k.room2 v (by_context (hidden_near k.near y)))

  -- where two tests of an expression differ its label is hidden
  guard_hidden : {s m t n : List ℕ} (e : Expr) (context : Side → List Atom) → ExprFits (variables S.program) e → Alike S s m t n
      → (truth (evaluate (version S.program) m e) ≡ truth (evaluate (version S.program) n e) → ⊥) → Hidden S s (under_expr S.program e context S.side)
  guard_hidden {s} e context f k d = ⊎_elim
      (λ h. hidden_in (λ a i. search Memᴰ.append_left) h)
      (λ o. absurd (d (ap truth (evaluate_same k _ e f o))))
      (hidden_or_open S s (expr_label S.program S.side e))

  -- where two answers to a query differ its label is hidden
  query_hidden : {s m t n : List ℕ} (q : Query) (context : Side → List Atom) → Alike S s m t n → (holds s q ≡ holds t q → ⊥) → Hidden S s (under_query q context S.side)
  query_hidden {s} q context k d = ⊎_elim
      (λ h. hidden_in (λ a i. search Memᴰ.append_left) h)
      (λ o. absurd (d (query_same k.near.good1 k.near q o)))
      (hidden_or_open S s (query_label S.side q))

  -- an update in a transaction that is not hidden rolls back in both runs or in neither
  on_update : {listed known l : List Query} {xs rs : ℕ} {context : Side → List Atom} {s m t n : List ℕ} {A : Type 0} (ms : List Mutation)
      → Each (Mutates S.base rs) ms × ((side : Side) → UpdatesOn S.base S.program known context listed xs rs side) → ListedHold listed known s → Alike S s m t n
      → l ≡ listed → (broken l s (mutate_all s ms) ≡ broken l t (mutate_all t ms) → A) → AllHidden S xs rs s ⊎ A
  on_update {listed} {context} {s} {t} ms h w k e f = ⊎_elim
      (λ y. inl (update_hidden S h.1 k.near.good1 w (hidden_in (λ a i. search Memᴰ.append_right) y)))
      (λ o. inr (f (subst (λ (q : List Query). broken q s (mutate_all s ms) ≡ broken q t (mutate_all t ms)) (sym e) (broken_same listed k.near.good1 k.near (update_near ms h.0 k.near) o))))
      (hidden_or_open S s (list_label S.side listed))

  -- assignments: where the variable is open so is the expression's label
  assign_alike : {around : Around} {known : List Query} {context : Side → List Atom} {at x : ℕ} {e : Expr} {s m t n : List ℕ}
      → Stands S around known context (assign at x e) → Known around known s → Alike S s m t n → Alike S s (set_value m x (evaluate (version S.program) m e)) t (set_value n x (evaluate (version S.program) n e))
  assign_alike {around} {known} {x} {e} {s} {m} {t} {n} h w k = assign_same x (evaluate (version S.program) m e) (evaluate (version S.program) n e) k (λ o. ⊎_elim
      (λ y. clash o (hides k.near.good1 (all_hold around known s w) ((rule S h).1 S.side).value_below y))
      (λ p. evaluate_same k _ e h.fits.1 p)
      (hidden_or_open S s (expr_label S.program S.side e)))

  -- a transaction that is hidden after a first part was so before it
  hidden_before : {around : Around} {known l : List Query} {context : Side → List Atom} {x : Stmt} {s m s₁ m₁ : List ℕ} {us : List Update}
      → Stands S around known context x → RunsIn S l x s m (ends s₁ m₁) us → Good S s → HiddenAround S around s₁ → HiddenAround S around s
  hidden_before {around = outside} h d g y = y
  hidden_before {around = inside listed xs rs} h d g y = hidden_around_near (inside listed xs rs) (near_sym (rows_stay S h d g y.rows_hidden)) y

  -- two runs of a transaction that is hidden
  hidden_transactions : {qs known l : List Query} {at start end : ℕ} {context : Side → List Atom} {x : Stmt} {s m s₁ m₁ t n t₁ n₁ : List ℕ} {us vs : List Update}
      → Stands S (inside qs (assigned x) (mutated x)) known context x → known ≡ []
      → RunsIn S l (transaction at start end qs x) s m (ends s₁ m₁) us → RunsIn S l (transaction at start end qs x) t n (ends t₁ n₁) vs
      → Alike S s m t n → AllHidden S (assigned x) (mutated x) s → Alike S s₁ m₁ t₁ n₁
  hidden_transactions {qs} {x} h w d e k y =
      let a = confined_transaction S h w d k.near.good1 k.room1 y in
      let b = confined_transaction S h w e k.near.good2 k.room2 (hidden_around_near (inside qs (assigned x) (mutated x)) k.near y) in
      alike_trans (alike_sym a) (alike_trans k b)

  -- that the first run does not gain is enough: in step the second changes open rows as the first does
  in_step_from : {l : List Query} {x : Stmt} {s m t n : List ℕ} {a b : End} {us vs : List Update} {around : Around} {known : List Query} {context : Side → List Atom}
      → Stands S around known context x → RunsIn S l x s m a us → RunsIn S l x t n b vs → l ≡ listed_of around
      → Known around known s → Known around known t → Alike S s m t n → NoGain S.group us → InStep S around s a b
  in_step_from h run_skip run_skip same w v k g = inr k
  in_step_from h run_assign run_assign same w v k g = inr (assign_alike h w k)
  in_step_from h run_empty run_empty same w v k g = inr k
  in_step_from h (run_block {us = us} {vs = vs} d e) (run_block d' e') same w v k g = ⊎_elim inl
      (λ k₁. ⊎_elim (λ y. inl (hidden_before (rule S h).0 d k.near.good1 y)) inr
      (in_step_from (rule S h).1 e e' same (known_stays S (rule S h).0 d same w) (known_stays S (rule S h).0 d' same v) k₁ (no_gain_later us g)))
      (in_step_from (rule S h).0 d d' same w v k (no_gain_first us vs g))
  in_step_from h (run_block {us = us} {vs = vs} d e) (run_block_rolls d') same w v k g = ⊎_elim inl absurd (in_step_from (rule S h).0 d d' same w v k (no_gain_first us vs g))
  in_step_from h (run_block_rolls d) (run_block d' e') same w v k g = ⊎_elim inl absurd (in_step_from (rule S h).0 d d' same w v k g)
  in_step_from h (run_block_rolls d) (run_block_rolls d') same w v k g = in_step_from (rule S h).0 d d' same w v k g
  in_step_from h (run_then c d) (run_then c' d') same w v k g = in_step_from (rule S h).0 d d' same w v k g
  in_step_from {context} h (run_then {e = e} c d) (run_else c' d') same w v k g =
      unseen_two same (rule S h).0 d w (rule S h).1 d' v k (guard_hidden e context h.fits.0 k (differ c c'))
  in_step_from {context} h (run_else {e = e} c d) (run_then c' d') same w v k g =
      unseen_two same (rule S h).1 d w (rule S h).0 d' v k (guard_hidden e context h.fits.0 k (λ z. differ c' c (sym z)))
  in_step_from h (run_else c d) (run_else c' d') same w v k g = in_step_from (rule S h).1 d d' same w v k g
  in_step_from h (run_stop c) (run_stop c') same w v k g = inr k
  in_step_from {context} h (run_stop {e = e} c) (run_more c' d' e') same w v k g =
      unseen_loops same (rule S h) (run_stop c) (run_more c' d' e') w v k (guard_hidden e context h.fits.0 k (λ z. differ c' c (sym z)))
  in_step_from {context} h (run_stop {e = e} c) (run_more_rolls c' d') same w v k g =
      unseen_loops same (rule S h) (run_stop c) (run_more_rolls c' d') w v k (guard_hidden e context h.fits.0 k (λ z. differ c' c (sym z)))
  in_step_from {context} h (run_more {e = e} c d i) (run_stop c') same w v k g =
      unseen_loops same (rule S h) (run_more c d i) (run_stop c') w v k (guard_hidden e context h.fits.0 k (differ c c'))
  in_step_from {context} h (run_more_rolls {e = e} c d) (run_stop c') same w v k g =
      unseen_loops same (rule S h) (run_more_rolls c d) (run_stop c') w v k (guard_hidden e context h.fits.0 k (differ c c'))
  in_step_from h (run_more {us = us} {vs = vs} c d e) (run_more c' d' e') same w v k g = ⊎_elim inl
      (λ k₁. ⊎_elim (λ y. inl (hidden_before (rule S h) d k.near.good1 y)) inr
      (in_step_from h e e' same (known_stays S (rule S h) d same w) (known_stays S (rule S h) d' same v) k₁ (no_gain_later us g)))
      (in_step_from (rule S h) d d' same w v k (no_gain_first us vs g))
  in_step_from h (run_more {us = us} {vs = vs} c d e) (run_more_rolls c' d') same w v k g = ⊎_elim inl absurd (in_step_from (rule S h) d d' same w v k (no_gain_first us vs g))
  in_step_from h (run_more_rolls c d) (run_more c' d' e') same w v k g = ⊎_elim inl absurd (in_step_from (rule S h) d d' same w v k g)
  in_step_from h (run_more_rolls c d) (run_more_rolls c' d') same w v k g = in_step_from (rule S h) d d' same w v k g
  in_step_from {around = outside} h (run_holds c d) d' same w v k g = absurd (rule S h)
  in_step_from {around = outside} h (run_fails c d) d' same w v k g = absurd (rule S h)
  in_step_from {s} {t} {around = inside _ _ _} h (run_holds c d) (run_holds c' d') same w v k g =
      let a = (rule S h).0 in
      in_step_from a.placed d d' same (a.knows_true s c w) (a.knows_true t c' v) k g
  in_step_from {s} {t} {around = inside _ _ _} {context} h (run_holds {q = q} c d) (run_fails c' d') same w v k g =
      let (a, b) = rule S h in
      unseen_two same a.placed d (a.knows_true s c w) b.placed d' (b.knows_true t c' v) k (query_hidden q context k (differ c c'))
  in_step_from {s} {t} {around = inside _ _ _} {context} h (run_fails {q = q} c d) (run_holds c' d') same w v k g =
      let (a, b) = rule S h in
      unseen_two same b.placed d (b.knows_true s c w) a.placed d' (a.knows_true t c' v) k (query_hidden q context k (λ z. differ c' c (sym z)))
  in_step_from {s} {t} {around = inside _ _ _} h (run_fails c d) (run_fails c' d') same w v k g =
      let b = (rule S h).1 in
      in_step_from b.placed d d' same (b.knows_true s c w) (b.knows_true t c' v) k g
  in_step_from {around = outside} h (run_update c) d' same w v k g = absurd (rule S h)
  in_step_from {around = outside} h (run_update_rolls c) d' same w v k g = absurd (rule S h)
  in_step_from {around = inside _ _ _} h (run_update {ms = ms} c) (run_update c') same w v k g = on_update ms (rule S h) w k same (λ _. alike_shown k (update_shows S ms (rule S h).0 k.near.good1 g) (update_near ms (rule S h).0 k.near))
  in_step_from {around = inside _ _ _} h (run_update {ms = ms} c) (run_update_rolls c') same w v k g = on_update ms (rule S h) w k same (λ z. differ c' c (sym z))
  in_step_from {around = inside _ _ _} h (run_update_rolls {ms = ms} c) (run_update c') same w v k g = on_update ms (rule S h) w k same (differ c c')
  in_step_from {around = inside _ _ _} h (run_update_rolls {ms = ms} c) (run_update_rolls c') same w v k g = on_update ms (rule S h) w k same (λ _. update_near ms (rule S h).0 k.near)
  in_step_from {around = inside _ _ _} h (run_transaction d) d' same w v k g = absurd (rule S h)
  in_step_from {around = inside _ _ _} h (run_again d e) d' same w v k g = absurd (rule S h)
  in_step_from {l} {s} {t} {around = outside} h (run_transaction {at = at} {start = start} {end = end} d) (run_transaction d') same w v k g = ⊎_elim
      (λ y. inr (hidden_transactions {l = l} {at = at} {start = start} {end = end} (rule S h) w (run_transaction d) (run_transaction d') k y))
      inr
      (in_step_from (rule S h) d d' refl (nothing_known _ s w) (nothing_known _ t v) k g)
  in_step_from {l} {s} {t} {around = outside} h (run_transaction d) (run_again d' e') same w v k g = ⊎_elim
      (λ y. inr (hidden_transactions {l = l} (rule S h) w (run_transaction d) (run_again d' e') k y))
      absurd
      (in_step_from (rule S h) d d' refl (nothing_known _ s w) (nothing_known _ t v) k g)
  in_step_from {l} {s} {t} {around = outside} h (run_again {us = us} {vs = vs} d e) (run_transaction d') same w v k g = ⊎_elim
      (λ y. inr (hidden_transactions {l = l} (rule S h) w (run_again d e) (run_transaction d') k y))
      absurd
      (in_step_from (rule S h) d d' refl (nothing_known _ s w) (nothing_known _ t v) k (no_gain_first us vs g))
  in_step_from {l} {s} {t} {around = outside} h (run_again {us = us} {vs = vs} d e) (run_again d' e') same w v k g = ⊎_elim
      (λ y. inr (hidden_transactions {l = l} (rule S h) w (run_again d e) (run_again d' e') k y))
      (λ near. in_step_from h e e' same w v (alike_shown k (hidden_along S (rule S h) d k.near.good1 (no_gain_first us vs g)) near) (no_gain_later us g))
      (in_step_from (rule S h) d d' refl (nothing_known _ s w) (nothing_known _ t v) k (no_gain_first us vs g))

  pub in_step : {around : Around} {known : List Query} {context : Side → List Atom} {x : Stmt} {s m t n : List ℕ} {a b : End} {us vs : List Update}
      → Stands S around known context x → RunsIn S (listed_of around) x s m a us → RunsIn S (listed_of around) x t n b vs
      → Known around known s → Known around known t → Alike S s m t n → NoGain S.group us → InStep S around s a b
  in_step h d d' w v k g = in_step_from h d d' refl w v k g
