-- In a free transaction all that may flow is at most all that it writes. What is known only grows, and no context in it ever holds
-- more than that: so every test passes, whatever is learnt, and no query changes a verdict.
use mathlib.Core.Path.{◌≡◌, refl, sym, ap, ◌∙◌}
use mathlib.Core.Logic.{⊎_elim}
use Prim.Native.Nat.{ℕ, zero, suc, ◌<◌, ◌≤◌}
use native.Mathlib.Omega.{arith}
use native.Mathlib.Nat.{lt_of_lt_of_le}
use native.Mathlib.Decide.{ℕ_discrete}
use mathlib.Core.List.Memᴰ
use mathlib.Core.List.{List, ◌∷◌, [], ◌++◌, Memᴰ}
use mathlib.Core.Bool.{Bool, true, false, cond}
use Rattle.model.specs.Limits.{role_limit, variable_limit}
use Rattle.model.specs.Number.{Verdict, fine, require, or_else}
use Rattle.model.specs.Sets.{has}
use Rattle.model.specs.Policy.{Side, reading, trust, roles}
use Rattle.model.specs.Syntax.{Atom, Query, Expr, constant, variable, binary, Stmt, skip, assign, empty, block, if, while, query, update, transaction}
use Rattle.model.specs.Program.{variables}
use Rattle.model.specs.Fits.{Each, QueryFits, ExprFits, Fits}
use Rattle.model.specs.Order.{join_at_most}
use Rattle.model.specs.Flow.{Around as Surroundings, outside, inside, label, expr_label, query_label, list_label, both_sides, under_expr, under_query, update_join, assigned, each_of, listed_in, all_allowed, may_assign, may_update, flow}
use Rattle.model.proofs.Accepted.{accepted_facts}
use Rattle.model.proofs.Fits.{listed_member}
use Rattle.model.proofs.Order.{known_same, join_derivable, derivable_join}
use Rattle.model.proofs.Sets.{has_or_l, has_or_r, has_with_same}
use Rattle.model.proofs.Truth.{both, and_both}
use Rattle.model.proofs.FlowParts.{Subset}
use Rattle.gathered.specs.Labels.{all_below}
use Rattle.context.specs.declared.judge.Written.{Written}
use Rattle.context.specs.declared.judge.Written.TheVariants.{Variable, Role}
use Rattle.context.specs.declared.around.Meets.{Meets}
use Rattle.context.specs.declared.around.Context.{Context}
use Rattle.context.specs.Context.{join_of, meet_of}
use Rattle.context.specs.Judge.{SetBelow, target_of, Asked, all_above, lies_in, Met, MetBoth}
use Rattle.order.specs.Table.{Table}
use Rattle.rules.specs.Check.{writes_of, may_flow, Free}

-- the labels of an expression are among those of all variables, and a listed query's among those of the list
module _ (p : List ℕ) (side : Side) where
  in_label : (x n : ℕ) → x < n → Memᴰ (label p side x) (expr_label p side (all_below n))
  unfolding expr_label all_below
  in_label x zero l = absurd (omega arith)
  in_label x (suc n) l = go (ℕ_discrete x n) (in_label x n)
    where
      go : Dec (x ≡ n) → (x < n → Memᴰ (label p side x) (expr_label p side (all_below n))) → Memᴰ (label p side x) (expr_label p side (all_below n) ++ label p side n ∷ [])
      go (yes e) f = Memᴰ.append_right (expr_label p side (all_below n)) (Memᴰ.head (ap (label p side) e))
      go (no k) f = Memᴰ.append_left (label p side n ∷ []) (f (omega arith))

  in_expr : (n : ℕ) (e : Expr) → ExprFits n e → (a : Atom) → Memᴰ a (expr_label p side e) → Memᴰ a (expr_label p side (all_below n))
  unfolding expr_label
  in_expr n (constant k) f a m = absurd (Memᴰ.not-nil m)
  in_expr n (variable x) f a m = rw (Memᴰ.eq_of_singleton m) (in_label x n f)
  in_expr n (binary op b c) f a m = ⊎_elim (in_expr n b f.0 a) (in_expr n c f.1 a) (Memᴰ.append_cases (expr_label p side b) m)

pub all_fits : (vars n : ℕ) → n ≤ vars → ExprFits vars (all_below n)
unfolding all_below
all_fits vars zero l = tt
all_fits vars (suc n) l = (all_fits vars n (omega arith), l)

in_list : (side : Side) (q : Query) (qs : List Query) → Memᴰ q qs → (a : Atom) → Memᴰ a (query_label side q) → Memᴰ a (list_label side qs)
unfolding list_label
in_list side q [] x' a m = elim x' [ ]
in_list side q (k ∷ qs) (Memᴰ.head e) a m = Memᴰ.append_left (list_label side qs) (rw e at m)
in_list side q (k ∷ qs) (Memᴰ.tail n) a m = Memᴰ.append_right (query_label side k) (in_list side q qs n a m)

-- a set's numbers that pass a test
module _ (a : ℕ) (f : ℕ → Bool) where
  each_in : (n : ℕ) → each_of a f n ≡ true → (x : ℕ) → x < n → has a x ≡ true → f x ≡ true
  unfolding each_of
  each_in zero h x l m = absurd (omega arith)
  each_in (suc n) h x l m = let (g, k) = both (each_of a f n) _ h in go (ℕ_discrete x n) (each_in n g x) k
    where
      go : Dec (x ≡ n) → (x < n → has a x ≡ true → f x ≡ true) → cond (has a n) (f n) true ≡ true → f x ≡ true
      go (yes e) i k = rw e (rw (rw e at m) at k)
      go (no e) i k = i (omega arith) m

  all_in : ((x : ℕ) → has a x ≡ true → f x ≡ true) → (n : ℕ) → each_of a f n ≡ true
  unfolding each_of
  all_in h zero = refl
  all_in h (suc n) = and_both (each_of a f n) _ (all_in h n) (go (has a n) (h n))
    where
      go : (b : Bool) → (b ≡ true → f n ≡ true) → cond b (f n) true ≡ true
      go true g = g refl
      go false g = refl

or_else_same : {v v' w w' : Verdict} → v ≡ v' → w ≡ w' → or_else v w ≡ or_else v' w'
or_else_same e f = rw (e, f)

require_same : (b : Bool) (n at : ℕ) {v v' : Verdict} → (b ≡ true → v ≡ v') → require b n at v ≡ require b n at v'
require_same true n at f = f refl
require_same false n at f = refl

sides_fine : (f : Side → Bool) (at : ℕ) → ((side : Side) → f side ≡ true) → both_sides f at ≡ fine
sides_fine f at h = rw (h reading, h trust)

module _ (s p : List ℕ) (listed : List Query) (xs rs : ℕ) where
  -- what may flow
  module _ (C : Side → List Atom) (side : Side) (a : Atom) where
    of_expr : (e : Expr) → ExprFits (variables p) e → Memᴰ a (expr_label p side e) → Memᴰ a (may_flow p listed C side)
    of_expr e f m = Memᴰ.append_left (list_label side listed) (Memᴰ.append_left (C side) (in_expr p side (variables p) e f a m))

    of_context : Memᴰ a (C side) → Memᴰ a (may_flow p listed C side)
    of_context m = Memᴰ.append_left (list_label side listed) (Memᴰ.append_right (expr_label p side (all_below (variables p))) m)

    of_list : Memᴰ a (list_label side listed) → Memᴰ a (may_flow p listed C side)
    of_list m = Memᴰ.append_right (under_expr p (all_below (variables p)) C side) m

  module _ (known : List Query) (C : Side → List Atom) (free : Free s p (inside listed xs rs) known C) where
    -- it stays free with more known, in a context of what may flow
    free_more : (k : List Query) (K : Side → List Atom) → ((q : Query) → Memᴰ q known → Memᴰ q k)
        → ((side : Side) (a : Atom) → Memᴰ a (K side) → Memᴰ a (may_flow p listed C side)) → Free s p (inside listed xs rs) k K
    unfolding Free
    free_more k K f g side w x a i m =
        let all = all_below (variables p) in
        known_same f (free side w x a i (⊎_elim
        (λ n. ⊎_elim (of_expr C side a all (all_fits (variables p) (variables p) (omega arith))) (g side a) (Memᴰ.append_cases (expr_label p side all) n))
        (of_list C side a)
        (Memᴰ.append_cases (under_expr p all K side) m)))

    more_known : (q : Query) → Free s p (inside listed xs rs) (q ∷ known) C
    more_known q = free_more (q ∷ known) C (λ k m. Memᴰ.tail m) (of_context C)

    more_expr : (e : Expr) → ExprFits (variables p) e → Free s p (inside listed xs rs) known (under_expr p e C)
    more_expr e f = free_more known (under_expr p e C) (λ k m. m) (λ side a m. ⊎_elim (of_expr C side a e f) (of_context C side a) (Memᴰ.append_cases (expr_label p side e) m))

    pub free_query : (q : Query) → Memᴰ q listed → Free s p (inside listed xs rs) known (under_query q C)
    free_query q h = free_more known (under_query q C) (λ k m. m) (λ side a m. ⊎_elim (λ n. of_list C side a (in_list side q listed h a n)) (of_context C side a) (Memᴰ.append_cases (query_label side q) m))

    -- every test passes
    free_join : (side : Side) (w : Written) (x : ℕ) (join : List Atom) → has (writes_of xs rs w) x ≡ true
        → ((a : Atom) → Memᴰ a join → Memᴰ a (may_flow p listed C side)) → join_at_most s known join (target_of p side w x) ≡ true
    unfolding Free
    free_join side w x join i f = derivable_join s known join (target_of p side w x) (λ a m. free side w x a i (f a m))

    free_assign : (at x : ℕ) (e : Expr) → has xs x ≡ true → ExprFits (variables p) e → both_sides (may_assign s p known C x e) at ≡ fine
    unfolding may_assign
    free_assign at x e i f = sides_fine (may_assign s p known C x e) at (λ side.
        free_join side Variable x (expr_label p side e ++ C side) i (λ a m. ⊎_elim (of_expr C side a e f) (of_context C side a) (Memᴰ.append_cases (expr_label p side e) m)))

    free_update : (at : ℕ) → both_sides (may_update s p known C listed xs rs) at ≡ fine
    unfolding may_update
    free_update at = sides_fine (may_update s p known C listed xs rs) at (λ side.
        let flows : (a : Atom) → Memᴰ a (update_join C listed side) → Memᴰ a (may_flow p listed C side) = λ a m. ⊎_elim (of_context C side a) (of_list C side a) (Memᴰ.append_cases (C side) m) in
        and_both _ _
        (all_in xs _ (λ x i. free_join side Variable x (update_join C listed side) i flows) variable_limit)
        (all_in rs _ (λ x i. free_join side Role x (update_join C listed side) i flows) role_limit))

  -- so what is known does not matter
  module _ (P R : ℕ) (few : R ≤ role_limit) (fits : Each (QueryFits R) listed) where
    pub free_same : (x : Stmt) → Fits P R (variables p) x → Subset (assigned x) xs
        → (k l : List Query) (C : Side → List Atom) → Free s p (inside listed xs rs) k C → Free s p (inside listed xs rs) l C
        → flow s p (inside listed xs rs) k C x ≡ flow s p (inside listed xs rs) l C x
    unfolding assigned flow
    free_same skip h w k l C f g = refl
    free_same (assign at x e) h w k l C f g = free_assign k C f at x e (w x (has_with_same 0 x)) h.1 ∙ sym (free_assign l C g at x e (w x (has_with_same 0 x)) h.1)
    free_same empty h w k l C f g = refl
    free_same (block a b) h w k l C f g =
        or_else_same (free_same a h.0 (λ i m. w i (has_or_l (assigned a) (assigned b) i m)) k l C f g) (free_same b h.1 (λ i m. w i (has_or_r (assigned a) (assigned b) i m)) k l C f g)
    free_same (if e a b) h w k l C f g =
        let f' = more_expr k C f e h.0 in
        let g' = more_expr l C g e h.0 in
        or_else_same
        (free_same a h.1 (λ i m. w i (has_or_l (assigned a) (assigned b) i m)) k l (under_expr p e C) f' g')
        (free_same b h.2 (λ i m. w i (has_or_r (assigned a) (assigned b) i m)) k l (under_expr p e C) f' g')
    free_same (while e a) h w k l C f g = free_same a h.1 w k l (under_expr p e C) (more_expr k C f e h.0) (more_expr l C g e h.0)
    free_same (query at q a b) h w k l C f g = require_same (listed_in q listed) 15 at (λ is.
        let m = listed_member R few q listed h.0 fits is in
        let f' = free_query k C f q m in
        let g' = free_query l C g q m in
        or_else_same
        (free_same a h.1 (λ i m. w i (has_or_l (assigned a) (assigned b) i m)) (q ∷ k) (q ∷ l) (under_query q C) (more_known k (under_query q C) f' q) (more_known l (under_query q C) g' q))
        (free_same b h.2 (λ i m. w i (has_or_r (assigned a) (assigned b) i m)) k l (under_query q C) f' g'))
    free_same (update at ms) h w k l C f g = ap (require (all_allowed s ms) 16 at) (free_update k C f at ∙ sym (free_update l C g at))
    free_same (transaction at start end qs a) h w k l C f g = refl

  -- it is free where all that may flow lies in its meets
  pub free_met : (t : Table) (l : Context) (m : Meets) (known : List Query) (C : Side → List Atom) → MetBoth p t xs rs m → Asked s p t l known (may_flow p listed C)
      → SetBelow xs (variables p) → SetBelow rs (roles s) → variables p ≤ variable_limit → ((side : Side) → lies_in (join_of side l) (meet_of side m) ≡ true) → Free s p (inside listed xs rs) known C
  unfolding MetBoth Met Free all_above
  free_met t l m known C met asked below below' few h side w x a i n =
      join_derivable s known (may_flow p listed C side) (target_of p side w x) (go w i) a n
    where
      above : (all_above s p known (may_flow p listed C) side Variable xs ≡ true) × (all_above s p known (may_flow p listed C) side Role rs ≡ true)
      above = both _ _ (sym (met side s l known (may_flow p listed C) asked below below') ∙ h side)

      go : (w : Written) → has (writes_of xs rs w) x ≡ true → join_at_most s known (may_flow p listed C side) (target_of p side w x) ≡ true
      go Variable i = each_in xs _ variable_limit above.0 x (lt_of_lt_of_le (below x i) few) i
      go Role i = each_in rs _ role_limit above.1 x (lt_of_lt_of_le (below' x i) (accepted_facts s asked.is_accepted).roles_fit) i

-- the same around any statement
module _ (s p : List ℕ) (known : List Query) (C : Side → List Atom) where
  pub free_known : (around : Surroundings) (q : Query) → Free s p around known C → Free s p around (q ∷ known) C
  unfolding Free
  free_known outside q f = tt
  free_known (inside listed xs rs) q f = more_known s p listed xs rs known C f q

  pub free_expr : (around : Surroundings) (e : Expr) → ExprFits (variables p) e → Free s p around known C → Free s p around known (under_expr p e C)
  unfolding Free
  free_expr outside e h f = tt
  free_expr (inside listed xs rs) e h f = more_expr s p listed xs rs known C f e h
