-- An accepted statement keeps its rule and its parts are accepted where they stand, since a verdict is fine only where all that it is chosen from is; and a part assigns and mutates no more than the whole.
use Prim.Native.Nat.{ℕ, zero, suc, ◌<◌, ◌≤◌}
use native.Mathlib.Omega.{arith}
use mathlib.Core.Path.{◌≡◌, refl, sym, ◌∙◌}
use mathlib.Core.Logic.{⊎_elim}
use mathlib.Core.List.Memᴰ
use mathlib.Core.List.{List, [], ◌∷◌, Memᴰ}
use mathlib.Core.Bool.{Bool, true, false}
use lib.Dec.{eqb}
use lib.Bits.{bit_or}
use borrow.Author.Tests.{eqb-true}
use Rattle.model.specs.Limits.{role_limit, variable_limit}
use Rattle.model.specs.Number.{accepted, Verdict, fine, refused, require, or_else}
use Rattle.model.specs.Sets.{has}
use Rattle.model.specs.Policy.{principals, roles, Side, reading, trust, Accepted, policy_number, SameFixed}
use Rattle.model.specs.Mutation.{Kind, addMember, deleteMember, addTaken, deleteTaken, operand_count, allowed, mutate, Mutation}
use Rattle.model.specs.Syntax.{of, Atom, fixed, Query, Expr, Stmt, skip, assign, empty, block, if, while, query, update, transaction}
use Rattle.model.specs.Program.{Read, got, bad, variables, read_program}
use Rattle.model.specs.Order.{join_at_most}
use Rattle.model.specs.Flow.{label, expr_label, assigned, roles_of, mutated, Around, outside, inside, each_of, listed_in, all_allowed, both_sides, under_expr, under_query, update_join, may_assign, may_update, flow, body_verdict, program_verdict}
use Rattle.model.specs.Atoms.{holds}
use Rattle.model.proofs.Accepted.{accepted_facts}
use Rattle.model.proofs.Below.{last_or}
use Rattle.model.specs.Fits.{Each, QueryFits, operand_limit, MutationFits, Fits}
use Rattle.model.proofs.Fits.{each_cons, listed_member}
use Rattle.model.proofs.Fixed.{fixed_trans}
use Rattle.model.proofs.Mutation.{mutate_fixed, mutate_accepted, allowed_fixed}
use Rattle.model.proofs.Order.{JoinAtMost, join_derivable}
use Rattle.model.proofs.Reading.{program_parts}
use Rattle.model.proofs.Sets.{has_or_l, has_or_r, has_with, has_with_same}
use Rattle.model.proofs.Truth.{both}

-- a verdict is fine where all that it is chosen from is
refused_not_fine : (k place : ℕ) → refused k place ≡ fine → ⊥
refused_not_fine k place h = let z : ◌≡◌ {A = ℕ} 0 1 = cc in omega arith

require_fine : (holds : Bool) (k place : ℕ) (later : Verdict) → require holds k place later ≡ fine → (holds ≡ true) × (later ≡ fine)
require_fine true k place later h = (refl, h)
require_fine false k place later h = absurd (refused_not_fine k place h)

or_else_fine : (v w : Verdict) → or_else v w ≡ fine → (v ≡ fine) × (w ≡ fine)
or_else_fine fine w h = (refl, h)
or_else_fine (refused k place) w h = absurd (refused_not_fine k place h)

sides_fine : (derivable : Side → Bool) (at : ℕ) → both_sides derivable at ≡ fine → (side : Side) → derivable side ≡ true
sides_fine derivable at h reading = (require_fine (derivable reading) _ at _ h).0
sides_fine derivable at h trust = (require_fine (derivable trust) _ at _ (require_fine (derivable reading) _ at _ h).1).0

each_in : (set : ℕ) (test : ℕ → Bool) (n : ℕ) → each_of set test n ≡ true → (x : ℕ) → x < n → has set x ≡ true → test x ≡ true
unfolding each_of
each_in set test zero h x l m = absurd (omega arith)
each_in set test (suc n) h x l m =
    let (f, g) = both (each_of set test n) _ h in
    ⊎_elim (λ e. let t : has set n ≡ true = rw e at m in rw e (rw t at g)) (λ k. each_in set test n f x k m) (last_or n x l)

-- every number in a is in b
abbrev pub Subset : ℕ → ℕ → Type 0
Subset a b = (i : ℕ) → has a i ≡ true → has b i ≡ true

-- a transaction around a statement: its listed queries fit, and its sets have all that the statement assigns and mutates
pub record Inside (R : ℕ) (listed : List Query) (xs rs : ℕ) (x : Stmt) : Type 0 where
  pub listed_fit : Each (QueryFits R) listed
  pub assigned_in : Subset (assigned x) xs
  pub mutated_in : Subset (mutated x) rs

abbrev pub Surrounded : ℕ → Around → Stmt → Type 0
Surrounded R outside x = Unit {0}
Surrounded R (inside listed xs rs) x = Inside R listed xs rs x

-- known queries are listed, and hold now
abbrev pub ListedHold : List Query → List Query → List ℕ → Type 0
ListedHold listed known s = Each (λ q. Memᴰ q listed × (holds s q ≡ true)) known

-- a statement that is accepted where it stands
pub record Placed (s p : List ℕ) (around : Around) (known : List Query) (context : Side → List Atom) (x : Stmt) : Type 0 where
  pub fits : Fits (principals s) (roles s) (variables p) x
  pub surrounded : Surrounded (roles s) around x
  pub flows : flow s p around known context x ≡ fine

-- the surrounding transaction, if any, has the variable in its set
abbrev pub Writes : Around → ℕ → Type 0
Writes outside x = Unit {0}
Writes (inside listed xs rs) x = has xs x ≡ true

-- the surroundings of a part: it assigns and mutates no more
part_surrounded : (R : ℕ) (around : Around) (z a : Stmt) → Subset (assigned a) (assigned z) → Subset (mutated a) (mutated z)
    → Surrounded R around z → Surrounded R around a
part_surrounded R outside z a f g h = tt
part_surrounded R (inside listed xs rs) z a f g h = record {
  listed_fit = h.listed_fit;
  assigned_in = λ i k. h.assigned_in i (f i k);
  mutated_in = λ i k. h.mutated_in i (g i k);
}

assign_writes : (R : ℕ) (around : Around) (at x : ℕ) (e : Expr) → Surrounded R around (assign at x e) → Writes around x
unfolding assigned
assign_writes R outside at x e h = tt
assign_writes R (inside listed xs rs) at x e h = h.assigned_in x (has_with_same 0 x)

-- a mutation of the policy s: what it needs to keep s accepted, and that its role is in the transaction's set
pub record Mutates (s : List ℕ) (rs : ℕ) (m : Mutation) : Type 0 where
  pub role_below : m.role < roles s
  pub operand_below : m.operand < operand_count s m.kind
  pub is_allowed : allowed s m.kind m.role m.operand ≡ true
  pub named : has rs m.role ≡ true

operand_fixed : {s a : List ℕ} → SameFixed s a → (k : Kind) → operand_count s k ≡ operand_count a k
operand_fixed e addMember = e.same_principals
operand_fixed e deleteMember = e.same_principals
operand_fixed e addTaken = e.same_roles
operand_fixed e deleteTaken = e.same_roles

-- what it needs of s it has of any policy with the same fixed part, and keeps that accepted too
module _ {s a : List ℕ} {rs : ℕ} {m : Mutation} (h : Mutates s rs m) (same : SameFixed s a) where
  pub mutates_role : m.role < roles a
  mutates_role = rw same.same_roles at h.role_below

  pub mutates_operand : m.operand < operand_count a m.kind
  mutates_operand = rw (operand_fixed same m.kind) at h.operand_below

  pub mutates_accepted : Accepted a → Accepted (mutate a m.kind m.role m.operand)
  mutates_accepted ok =
      mutate_accepted a m.kind m.role m.operand ok mutates_role mutates_operand
      (sym (allowed_fixed same m.kind m.role m.operand h.role_below h.operand_below) ∙ h.is_allowed)

  pub mutates_fixed : SameFixed s (mutate a m.kind m.role m.operand)
  mutates_fixed = fixed_trans same (mutate_fixed a m.kind m.role m.operand)

operand_limit_lem : (s : List ℕ) (k : Kind) → operand_limit (principals s) (roles s) k ≡ operand_count s k
operand_limit_lem s addMember = refl
operand_limit_lem s deleteMember = refl
operand_limit_lem s addTaken = refl
operand_limit_lem s deleteTaken = refl

mutates : (s : List ℕ) (rs : ℕ) (ms : List Mutation) → Each (MutationFits (principals s) (roles s)) ms → Subset (roles_of ms) rs → all_allowed s ms ≡ true
    → Each (Mutates s rs) ms
unfolding roles_of all_allowed
mutates s rs [] f g h = λ m i. absurd (Memᴰ.not-nil i)
mutates s rs (k ∷ ms) f g h =
    let (a, later) = both _ _ h in
    let (r, o) = f k (Memᴰ.head refl) in
    let this : Mutates s rs k = record {
      role_below = r;
      operand_below = rw (operand_limit_lem s k.kind) at o;
      is_allowed = a;
      named = g k.role (has_with_same (roles_of ms) k.role);
    } in
    each_cons this (mutates s rs ms (λ m i. f m (Memᴰ.tail i)) (λ j i. g j (has_with (roles_of ms) k.role j i)) later)

module _ (s p : List ℕ) where
  -- an assignment on a side: context and expression label are at most the variable's label
  pub record AssignsOn (known : List Query) (context : Side → List Atom) (x : ℕ) (e : Expr) (side : Side) : Type 0 where
    pub context_below : JoinAtMost s known (context side) (label p side x)
    pub value_below : JoinAtMost s known (expr_label p side e) (label p side x)

  -- an update on a side: context and listed queries' labels are at most the label of every variable that the transaction assigns, and at most the
  -- watchers of every role that it mutates
  pub record UpdatesOn (known : List Query) (context : Side → List Atom) (listed : List Query) (xs rs : ℕ) (side : Side) : Type 0 where
    pub variables_above : (x : ℕ) → x < variable_limit → has xs x ≡ true → JoinAtMost s known (update_join context listed side) (label p side x)
    pub roles_above : (r : ℕ) → r < role_limit → has rs r ≡ true → JoinAtMost s known (update_join context listed side) (fixed (of side r))

  -- the branch of a query to which an answer leads: accepted where it stands, and what it knows is listed and holds, under a
  -- policy where what is known around the query does and the query has that answer
  pub record Branch (listed : List Query) (xs rs : ℕ) (known : List Query) (context : Side → List Atom) (q : Query) (answer : Bool) (x : Stmt) : Type 0 where
    pub knows : List Query
    pub placed : Placed s p (inside listed xs rs) knows (under_query q context) x
    pub knows_true : (t : List ℕ) → holds t q ≡ answer → ListedHold listed known t → ListedHold listed knows t

  -- what acceptance gives, by the statement's rule
  abbrev pub Parts : Around → List Query → (Side → List Atom) → Stmt → Type 0
  Parts around known context skip = Unit {0}
  Parts around known context (assign at x e) = Writes around x × ((side : Side) → AssignsOn known context x e side)
  Parts around known context empty = Unit {0}
  Parts around known context (block a b) = Placed s p around known context a × Placed s p around known context b
  Parts around known context (if e a b) = Placed s p around known (under_expr p e context) a × Placed s p around known (under_expr p e context) b
  Parts around known context (while e a) = Placed s p around known (under_expr p e context) a
  Parts outside known context (query at q a b) = ⊥
  Parts (inside listed xs rs) known context (query at q a b) =
      Branch listed xs rs known context q true a × Branch listed xs rs known context q false b
  Parts outside known context (update at ms) = ⊥
  Parts (inside listed xs rs) known context (update at ms) = Each (Mutates s rs) ms × ((side : Side) → UpdatesOn known context listed xs rs side)
  Parts outside known context (transaction at start end qs a) = Placed s p (inside qs (assigned a) (mutated a)) known context a
  Parts (inside listed xs rs) known context (transaction at start end qs a) = ⊥

  may_assign_lem : (known : List Query) (context : Side → List Atom) (x : ℕ) (e : Expr) (side : Side) → may_assign s p known context x e side ≡ true
      → AssignsOn known context x e side
  unfolding may_assign
  may_assign_lem known context x e side h =
      let below = join_derivable s known _ (label p side x) h in
      record {
        context_below = λ a i. below a (search Memᴰ.append_right);
        value_below = λ a i. below a (search Memᴰ.append_left);
      }

  may_update_lem : (known : List Query) (context : Side → List Atom) (listed : List Query) (xs rs : ℕ) (side : Side) → may_update s p known context listed xs rs side ≡ true
      → UpdatesOn known context listed xs rs side
  unfolding may_update
  may_update_lem known context listed xs rs side h =
      let join = update_join context listed side in
      let (v, m) = both (each_of xs (λ x. join_at_most s known join (label p side x)) variable_limit) (each_of rs (λ r. join_at_most s known join (fixed (of side r))) role_limit) h in
      record {
        variables_above = λ x l i. join_derivable s known join (label p side x) (each_in xs _ variable_limit v x l i);
        roles_above = λ r l i. join_derivable s known join (fixed (of side r)) (each_in rs _ role_limit m r l i);
      }

  -- the two parts of a block, an if or a query
  two_parts : (around : Around) (k l : List Query) (context : Side → List Atom) (z a b : Stmt)
      → assigned z ≡ bit_or (assigned a) (assigned b) → mutated z ≡ bit_or (mutated a) (mutated b)
      → Fits (principals s) (roles s) (variables p) a → Fits (principals s) (roles s) (variables p) b
      → Surrounded (roles s) around z → or_else (flow s p around k context a) (flow s p around l context b) ≡ fine
      → Placed s p around k context a × Placed s p around l context b
  two_parts around k l context z a b e m f g i h =
      let (v, w) = or_else_fine (flow s p around k context a) (flow s p around l context b) h in
      let left = part_surrounded (roles s) around z a (rw e (has_or_l (assigned a) (assigned b))) (rw m (has_or_l (mutated a) (mutated b))) i in
      let right = part_surrounded (roles s) around z b (rw e (has_or_r (assigned a) (assigned b))) (rw m (has_or_r (mutated a) (mutated b))) i in
      (record { fits = f; surrounded = left; flows = v }, record { fits = g; surrounded = right; flows = w })

  -- the query is listed, and known in the first branch only
  query_branches : {listed : List Query} {xs rs : ℕ} {known : List Query} {context : Side → List Atom} {at : ℕ} {q : Query} {a b : Stmt}
      → Accepted s → Placed s p (inside listed xs rs) known context (query at q a b)
      → Branch listed xs rs known context q true a × Branch listed xs rs known context q false b
  unfolding flow assigned mutated
  query_branches {listed} {xs} {rs} {context} {at} {q} {a} {b} good h =
      let (l, v) = require_fine (listed_in q listed) _ at _ h.flows in
      let m = listed_member (roles s) (accepted_facts s good).roles_fit q listed h.fits.0 h.surrounded.listed_fit l in
      let (x, y) = two_parts (inside listed xs rs) _ _ (under_query q context) (query at q a b) a b refl refl h.fits.1 h.fits.2 h.surrounded v in
      (record { knows = _; placed = x; knows_true = λ t c w. each_cons (m, c) w }, record { knows = _; placed = y; knows_true = λ t c w. w })

  pub parts : {around : Around} {known : List Query} {context : Side → List Atom} {x : Stmt} → Accepted s → Placed s p around known context x → Parts around known context x
  unfolding flow assigned mutated
  parts {x = skip} good h = tt
  parts {around} {known} {context} {x = assign at x e} good h =
      (assign_writes (roles s) around at x e h.surrounded, λ side. may_assign_lem known context x e side (sides_fine (may_assign s p known context x e) at h.flows side))
  parts {x = empty} good h = tt
  parts {around} {known} {context} {x = block a b} good h =
      two_parts around known known context (block a b) a b refl refl h.fits.0 h.fits.1 h.surrounded h.flows
  parts {around} {known} {context} {x = if e a b} good h =
      two_parts around known known (under_expr p e context) (if e a b) a b refl refl h.fits.1 h.fits.2 h.surrounded h.flows
  parts {around} {known} {context} {x = while e a} good h = record {
    fits = h.fits.1;
    surrounded = part_surrounded (roles s) around (while e a) a (λ i k. k) (λ i k. k) h.surrounded;
    flows = h.flows;
  }
  parts {around = outside} {x = query at q a b} good h = refused_not_fine _ at h.flows
  parts {around = inside listed xs rs} {x = query at q a b} good h = query_branches good h
  parts {around = outside} {x = update at ms} good h = refused_not_fine _ at h.flows
  parts {around = inside listed xs rs} {known} {context} {x = update at ms} good h =
      let (a, v) = require_fine (all_allowed s ms) _ at _ h.flows in
      let checked = sides_fine (may_update s p known context listed _ _) at v in
      (mutates s rs ms h.fits h.surrounded.mutated_in a, λ side. may_update_lem known context listed _ _ side (checked side))
  parts {around = outside} {x = transaction at start end qs a} good h = record {
    fits = h.fits.1;
    surrounded = record { listed_fit = h.fits.0; assigned_in = λ i k. k; mutated_in = λ i k. k };
    flows = h.flows;
  }
  parts {around = inside listed xs rs} {x = transaction at start end qs a} good h = refused_not_fine _ at h.flows

  -- the body of an accepted program
  pub record AcceptedProgram : Type 0 where
    pub policy : Accepted s
    pub body : Stmt
    pub end : ℕ
    pub is_read : read_program p (principals s) (roles s) ≡ got body end
    pub few : variables p ≤ variable_limit
    pub placed : Placed s p outside [] (λ side. []) body

  pub accepted_program : program_verdict s p ≡ fine → AcceptedProgram
  unfolding program_verdict body_verdict
  accepted_program h =
      let (good, v) = require_fine (eqb (policy_number s) accepted) _ 0 _ h in
      go (eqb-true (policy_number s) accepted good) (read_program p (principals s) (roles s)) refl v
    where
      go : Accepted s → (r : Read Stmt) → read_program p (principals s) (roles s) ≡ r → body_verdict s p r ≡ fine → AcceptedProgram
      go good (got x end) e v =
          let u = program_parts p (principals s) (roles s) e in
          record { policy = good; body = x; end = end; is_read = e; few = u.few; placed = record { fits = u.fits; surrounded = tt; flows = v } }
      go good (bad k place) e v = absurd (refused_not_fine k place v)
