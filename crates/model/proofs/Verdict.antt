-- What the flow rules ask of a policy and a program, so that they say the same of two of each: joins and what may be added of
-- the policies, the labels of the programs. Then O3: of a policy the verdict asks besides only its number and how many
-- principals and roles it has, and all of these are the same for accepted policies with the same fixed part.
use Prim.Native.Nat.{ℕ}
use mathlib.Core.Path.{◌≡◌, refl, fun_ext}
use mathlib.Core.List.{List, [], ◌∷◌}
use Rattle.model.specs.Policy.{Side, reading, trust, Accepted, SameFixed}
use Rattle.model.specs.Mutation.{Mutation, Kind, addMember, deleteMember, addTaken, deleteTaken, allowed}
use Rattle.model.specs.Syntax.{Fixed, of, everyone, Atom, role, fixed, Query, Expr, constant, variable, binary, Stmt, skip, assign, empty, block, if, while, query, update, transaction}
use Rattle.model.specs.Program.{Read, got, bad}
use Rattle.model.specs.Order.{fixed_set, includes, base, at_most, join_at_most}
use Rattle.model.specs.Flow.{Around, outside, inside, label, expr_label, all_allowed, under_expr, may_assign, may_update, flow, body_verdict, program_verdict}
use Rattle.model.proofs.Taking.{may_take_same}
use Rattle.model.proofs.Fixed.{may_hold_same}
use Rattle.model.proofs.Beyond.{watchers_same}

-- two policies in which the same joins are at most the same labels and the same mutations may be added, and two programs with
-- the same labels
module _ (a b p q : List ℕ)
    (labels : (side : Side) (x : ℕ) → label p side x ≡ label q side x)
    (joins : (known : List Query) (join : List Atom) (y : Atom) → join_at_most a known join y ≡ join_at_most b known join y)
    (grants : (ms : List Mutation) → all_allowed a ms ≡ all_allowed b ms) where
  expr_same : (side : Side) (e : Expr) → expr_label p side e ≡ expr_label q side e
  unfolding expr_label
  expr_same side (constant n) = refl
  expr_same side (variable x) = rw (labels side x)
  expr_same side (binary op c d) = rw (expr_same side c, expr_same side d)

  assign_same : (known : List Query) (context : Side → List Atom) (x : ℕ) (e : Expr) (side : Side) → may_assign a p known context x e side ≡ may_assign b q known context x e side
  unfolding may_assign
  assign_same known context x e side = simp (labels, expr_same, joins)

  update_same : (known : List Query) (context : Side → List Atom) (listed : List Query) (xs rs : ℕ) (side : Side) → may_update a p known context listed xs rs side ≡ may_update b q known context listed xs rs side
  unfolding may_update
  update_same known context listed xs rs side = simp (labels, joins)

  under_same : (e : Expr) (context : Side → List Atom) → under_expr p e context ≡ under_expr q e context
  under_same e context = fun_ext (λ side. cc (expr_same side e))

  pub flow_same : (around : Around) (known : List Query) (context : Side → List Atom) (x : Stmt) → flow a p around known context x ≡ flow b q around known context x
  unfolding flow
  flow_same around known context skip = refl
  flow_same around known context (assign at x e) = simp assign_same
  flow_same around known context empty = refl
  flow_same around known context (block c d) = rw (flow_same around known context c, flow_same around known context d)
  flow_same around known context (if e c d) = rw (under_same e context, flow_same around known _ c, flow_same around known _ d)
  flow_same around known context (while e c) = rw (under_same e context) (flow_same around known _ c)
  flow_same outside known context (query at k c d) = refl
  flow_same (inside listed xs rs) known context (query at k c d) = rw (flow_same (inside listed xs rs) _ _ c, flow_same (inside listed xs rs) _ _ d)
  flow_same outside known context (update at ms) = refl
  flow_same (inside listed xs rs) known context (update at ms) = simp (grants, update_same)
  flow_same outside known context (transaction at start end qs c) = flow_same (inside qs _ _) known context c
  flow_same (inside listed xs rs) known context (transaction at start end qs c) = refl

  pub body_same : (body : Read Stmt) → body_verdict a p body ≡ body_verdict b q body
  unfolding body_verdict
  body_same (got body end) = flow_same outside [] _ body
  body_same (bad k place) = refl

module _ (a b : List ℕ) (oka : Accepted a) (okb : Accepted b) (same : SameFixed a b) where
  set_same : (f : Fixed) → fixed_set a f ≡ fixed_set b f
  unfolding fixed_set
  set_same (of side j) = watchers_same a b oka okb same side j
  set_same everyone = rw same.same_principals

  includes_same : (f g : Fixed) → includes a f g ≡ includes b f g
  unfolding includes
  includes_same f g = rw (set_same f, set_same g)

  base_same : (x y : Atom) → base a x y ≡ base b x y
  unfolding base
  base_same (role i) (role j) = refl
  base_same (role i) (fixed g) = refl
  base_same (fixed f) (role j) = rw (includes_same f (of reading j), includes_same f (of trust j))
  base_same (fixed f) (fixed g) = includes_same f g

  test_same : (known : List Query) (x y : Atom) → at_most a known x y ≡ at_most b known x y
  unfolding at_most
  test_same [] x y = base_same x y
  test_same (q ∷ known) x y = rw (test_same known x y, test_same known x q.first, test_same known q.second y)

  join_same : (known : List Query) (join : List Atom) (y : Atom) → join_at_most a known join y ≡ join_at_most b known join y
  unfolding join_at_most
  join_same known [] y = refl
  join_same known (x ∷ join) y = rw (test_same known x y, join_same known join y)

  allowed_same : (k : Kind) (r x : ℕ) → allowed a k r x ≡ allowed b k r x
  unfolding allowed
  allowed_same addMember r x = may_hold_same a b r x (λ side. watchers_same a b oka okb same side r)
  allowed_same deleteMember r x = refl
  allowed_same addTaken r x = may_take_same a b r x (λ side. watchers_same a b oka okb same side r) (λ side. watchers_same a b oka okb same side x)
  allowed_same deleteTaken r x = refl

  all_allowed_same : (ms : List Mutation) → all_allowed a ms ≡ all_allowed b ms
  unfolding all_allowed
  all_allowed_same [] = refl
  all_allowed_same (m ∷ ms) = cc (allowed_same m.kind m.role m.operand, all_allowed_same ms)

  pub verdict_fixed : (p : List ℕ) → program_verdict a p ≡ program_verdict b p
  unfolding program_verdict
  verdict_fixed p = rw (oka, okb, same.same_principals, same.same_roles) (body_same a b p p (λ _ _. refl) join_same all_allowed_same _)
