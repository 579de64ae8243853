-- Where what the code carries stands for what the rules speak of at a statement: what a test of it asks for, which places a refusal
-- can keep, what stands in another context, and which transaction is around it.
use mathlib.Core.Path.{◌≡◌, refl, sym, subst}
use Prim.Native.Nat.{ℕ, ◌<◌, ◌≤◌}
use native.Mathlib.Omega.{arith}
use native.Mathlib.Nat.{lt_of_lt_of_le}
use mathlib.Core.List.{List, ◌++◌}
use Rattle.model.specs.Limits.{role_limit, expression_depth}
use Rattle.model.specs.Policy.{Side, reading, trust, principals, roles}
use Rattle.model.specs.Syntax.{Atom, Query, Expr, Stmt}
use Rattle.model.specs.Program.{got, variables, read_expr}
use Rattle.model.specs.Fits.{ExprFits}
use Rattle.model.specs.Flow.{Around as Surroundings, outside, inside, expr_label}
use Rattle.model.proofs.Accepted.{accepted_facts}
use Rattle.model.proofs.Standing.{stmt_there}
use Rattle.order.specs.Table.{Table}
use Rattle.std.proofs.Common.{Err}
use Rattle.program.specs.declared.refused.Refused.{Refused}
use Rattle.program.specs.Answer.{stopped, place_limit, refusal}
use Rattle.program.specs.Refused.{tells}
use Rattle.program.proofs.RefusedLaws.{number_kept, place_kept}
use Rattle.gathered.specs.Words.{expr_roles}
use Rattle.gathered.specs.declared.labels.Labels.{Labels}
use Rattle.gathered.specs.Labels.{LabelsBelow, LabelsAt}
use Rattle.context.specs.declared.around.Transaction.{Transaction}
use Rattle.context.specs.declared.around.Around.{Around}
use Rattle.context.specs.declared.around.Around.TheVariants as around
use Rattle.context.specs.declared.around.Context.{Context}
use Rattle.context.specs.Context.{Carried, carried, with_labels, ContextIs}
use Rattle.context.specs.Judge.{Asked}
use Rattle.rules.specs.Check.{Inside, Outside, AroundIs, Free, Stands, StmtAt, JoinedAt}
use Rattle.context.proofs.ContextLaws.{context_expr}

-- a refusal tells its number and its place
pub stopped_tells : (r : Refused) (k place : ℕ) → r.word ≡ refusal k place → place < place_limit → tells (Err r) ≡ stopped k place
stopped_tells r k place e l = rw (number_kept r k place e, place_kept r k place e l) refl

-- what stands for what, kept up
module _ {s p : List ℕ} {t : Table} {c : Carried} {around : Surroundings} {known : List Query} {C : Side → List Atom} (st : Stands s p t c around known C) where
  pub stands_asked : (l : Context) {K : Side → List Atom} → ContextIs (roles s) l K → Asked s p t l known K
  stands_asked l h = record { is_accepted = st.is_accepted; labels = st.labels; knows = st.knows; context = h }

  pub roles_few : roles s ≤ role_limit
  roles_few = (accepted_facts s st.is_accepted).roles_fit

  -- a refusal keeps where a statement stands
  pub low_start : (d at : ℕ) {x : Stmt} {end : ℕ} → StmtAt s p d at x end → at < place_limit
  low_start d at h = omega (arith, st.short, stmt_there p (principals s) (roles s) (variables p) d at h)

  -- in another context
  pub stands_context : (l : Context) {K : Side → List Atom} → ContextIs (roles s) l K → (Free s p around known C → Free s p around known K)
      → Stands s p t (carried c.around l) around known K
  stands_context l h f = record {
    is_accepted = st.is_accepted;
    short = st.short;
    few = st.few;
    labels = st.labels;
    knows = st.knows;
    surrounded = st.surrounded;
    met = st.met;
    free = λ z. f (st.free z);
    context = h;
  }

  under_expr : (e : Expr) → ExprFits (variables p) e → ContextIs (roles s) (with_labels c.context (expr_roles p reading e) (expr_roles p trust e)) (λ side. expr_label p side e ++ C side)
  under_expr e h = context_expr (roles s) c.context C st.context p (variables p) e st.labels h

  -- the labels of all variables
  pub under_all : (a : Labels) (e : Expr) → ExprFits (variables p) e → a.readers ≡ expr_roles p reading e → a.trusters ≡ expr_roles p trust e
      → ContextIs (roles s) (with_labels c.context a.readers a.trusters) (λ side. expr_label p side e ++ C side)
  under_all a e h f g = rw (f, g) (under_expr e h)

  -- an expression's labels
  pub joined_is : (q : ℕ) (a : Context) (r : ℕ) (e : Expr) (end : ℕ) → JoinedAt p q c.context a r → read_expr p (variables p) expression_depth q ≡ got e end → ExprFits (variables p) e
      → (r ≡ end) × ContextIs (roles s) a (λ side. expr_label p side e ++ C side)
  unfolding LabelsAt LabelsBelow
  joined_is q a r e end j h fit =
      let (m, n) = j.labels_at (variables p) (λ side x i n. lt_of_lt_of_le (st.labels side x i n) roles_few) e end h in
      let k : a ≡ with_labels c.context (expr_roles p reading e) (expr_roles p trust e) = λ z. record { labels = n z; asked = j.same z } in
      (m, subst (λ (l : Context). ContextIs (roles s) l (λ side. expr_label p side e ++ C side)) (sym k) (under_expr e fit))

-- a transaction around, or none
pub record Within (p : List ℕ) (R vars : ℕ) (a : Transaction) (around : Surroundings) : Type 0 where
  pub listed : List Query
  pub xs : ℕ
  pub rs : ℕ
  pub is : around ≡ inside listed xs rs
  pub parts : Inside p R vars a listed xs rs

module _ (p : List ℕ) (R vars : ℕ) (a : Around) where
  pub within_one : (w : Surroundings) (x : Transaction) → AroundIs p R vars a w → a ≡ around.Inside x → Within p R vars x w
  within_one w x h e = go w (subst (λ (b : Around). AroundIs p R vars b w) e h)
    where
      go : (w : Surroundings) → AroundIs p R vars (around.Inside x) w → Within p R vars x w
      go outside h = absurd h
      go (inside listed xs rs) h = record { listed = listed; xs = xs; rs = rs; is = refl; parts = h }

  pub within_none : (w : Surroundings) (x : Labels) → AroundIs p R vars a w → a ≡ around.Outside x → (w ≡ outside) × Outside p vars x
  within_none w x h e = go w (subst (λ (b : Around). AroundIs p R vars b w) e h)
    where
      go : (w : Surroundings) → AroundIs p R vars (around.Outside x) w → (w ≡ outside) × Outside p vars x
      go outside h = (refl, h)
      go (inside listed xs rs) h = absurd h
