-- What the code joins to a context is what the rules join to the context: an expression's label, the labels of queries.
use mathlib.Core.Path.{◌≡◌, refl, sym}
use Prim.Native.Nat.{ℕ, ◌^◌, ◌<◌, ◌≤◌}
use mathlib.Core.List.{List, [], ◌∷◌, ◌++◌}
use mathlib.Core.Bool.{Bool, true, false, cond}
use lib.Bits.{or_comm}
use lib.Dec.{eqb}
use borrow.Author.Tests.{eqb-true, eqb-false}
use Rattle.model.specs.Limits.{role_limit}
use Rattle.model.specs.Policy.{Side, reading, trust}
use Rattle.model.specs.Syntax.{everyone, Atom, role, fixed, atom_byte, Query, Expr, constant, variable, binary}
use Rattle.model.specs.Flow.{label_atom, label, expr_label, query_label, list_label}
use Rattle.model.specs.Fits.{Each, AtomFits, QueryFits, ExprFits}
use Rattle.order.specs.Table.{Joins, JoinBelow, query_roles, list_roles}
use Rattle.order.proofs.Joins.{joins_none, joins_append, joins_role, joins_everyone, joins_query, joins_list, below_none, below_append, below_one, below_query, below_list}
use Rattle.model.specs.Program.{label_byte}
use Rattle.gathered.specs.Words.{label_role, expr_roles}
use Rattle.gathered.specs.Labels.{LabelsBelow}
use Rattle.context.specs.declared.around.Context.{Context}
use Rattle.context.specs.Context.{empty_context, with_labels, with_named, join_of, ContextIs}

-- a label's byte is that of its atom
module _ (b : ℕ) where
  pub label_byte_lem : atom_byte (label_atom b) ≡ b
  unfolding label_atom
  label_byte_lem = go (eqb b 0xff) refl
    where
      go : (t : Bool) → eqb b 0xff ≡ t → atom_byte (cond t (fixed everyone) (role b)) ≡ b
      go true e = sym (eqb-true b 0xff e)
      go false e = refl

  pub atom_below : (R : ℕ) → ((b ≡ 0xff → ⊥) → b < R) → AtomFits R (label_atom b)
  unfolding label_atom
  atom_below R f = go (eqb b 0xff) refl
    where
      go : (t : Bool) → eqb b 0xff ≡ t → AtomFits R (cond t (fixed everyone) (role b))
      go true e = tt
      go false e = f (eqb-false b 0xff e)

  joins_label : (side : Side) → Joins side (label_atom b ∷ []) (label_role b) 0
  unfolding label_atom
  joins_label side = go (eqb b 0xff)
    where
      go : (t : Bool) → Joins side (cond t (fixed everyone) (role b) ∷ []) (cond t 0 (2 ^ b)) 0
      go true = joins_everyone side
      go false = joins_role side b

module _ (R : ℕ) (p : List ℕ) (vars : ℕ) (labels : LabelsBelow R p vars) (side : Side) where
  pub label_below : (x : ℕ) → x < vars → AtomFits R (label p side x)
  unfolding LabelsBelow label
  label_below x l = atom_below (label_byte p side x) R (labels side x l)

  -- an expression's label
  pub joins_expr : (e : Expr) → Joins side (expr_label p side e) (expr_roles p side e) 0
  unfolding expr_label expr_roles label
  joins_expr (constant n) = joins_none side
  joins_expr (variable x) = joins_label (label_byte p side x) side
  joins_expr (binary op a b) = joins_append side (joins_expr a) (joins_expr b)

  pub below_expr : (e : Expr) → ExprFits vars e → JoinBelow R (expr_label p side e)
  unfolding expr_label
  below_expr (constant n) f = below_none R
  below_expr (variable x) f = below_one R (label p side x) (label_below x f)
  below_expr (binary op a b) f = below_append R (below_expr a f.0) (below_expr b f.1)

pub context_none : (n : ℕ) → ContextIs n empty_context (λ side. [])
context_none n = record { joined = go; below = λ side. below_none n }
  where
    go : (side : Side) → Joins side [] (join_of side empty_context).roles (join_of side empty_context).watchers
    go reading = joins_none reading
    go trust = joins_none trust

module _ (n : ℕ) (l : Context) (C : Side → List Atom) (is : ContextIs n l C) where
  pub context_expr : (p : List ℕ) (vars : ℕ) (e : Expr) → LabelsBelow n p vars → ExprFits vars e → ContextIs n (with_labels l (expr_roles p reading e) (expr_roles p trust e)) (λ side. expr_label p side e ++ C side)
  context_expr p vars e b f = record { joined = go; below = λ side. below_append n (below_expr n p vars b side e f) (is.below side) }
    where
      k : Context
      k = with_labels l (expr_roles p reading e) (expr_roles p trust e)

      go : (side : Side) → Joins side (expr_label p side e ++ C side) (join_of side k).roles (join_of side k).watchers
      go reading = joins_append reading (joins_expr n p vars b reading e) (is.joined reading)
      go trust = joins_append trust (joins_expr n p vars b trust e) (is.joined trust)

  -- the watchers of named roles before the context, as for a query, and after it, as for the listed queries
  named_first : (join : Side → List Atom) (named : ℕ) → ((side : Side) → Joins side (join side) 0 named) → (side : Side)
      → Joins side (join side ++ C side) (join_of side (with_named l named)).roles (join_of side (with_named l named)).watchers
  named_first join named f reading = joins_append reading (f reading) (is.joined reading)
  named_first join named f trust = joins_append trust (f trust) (is.joined trust)

  named_last : (join : Side → List Atom) (named : ℕ) → ((side : Side) → Joins side (join side) 0 named) → (side : Side)
      → Joins side (C side ++ join side) (join_of side (with_named l named)).roles (join_of side (with_named l named)).watchers
  named_last join named f reading = rw (or_comm 0 l.labels.readers, or_comm named l.asked) (joins_append reading (is.joined reading) (f reading))
  named_last join named f trust = rw (or_comm 0 l.labels.trusters, or_comm named l.asked) (joins_append trust (is.joined trust) (f trust))

  module _ (few : n ≤ role_limit) where
    pub context_query : (q : Query) → QueryFits n q → ContextIs n (with_named l (query_roles q)) (λ side. query_label side q ++ C side)
    context_query q f = record {
      joined = named_first (λ side. query_label side q) (query_roles q) (λ side. joins_query side n few q f);
      below = λ side. below_append n (below_query n side q f) (is.below side);
    }

    pub context_list : (qs : List Query) → Each (QueryFits n) qs → ContextIs n (with_named l (list_roles qs)) (λ side. C side ++ list_label side qs)
    context_list qs f = record {
      joined = named_last (λ side. list_label side qs) (list_roles qs) (λ side. joins_list side n few qs f);
      below = λ side. below_append n (is.below side) (below_list n side qs f);
    }
