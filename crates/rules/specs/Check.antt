-- What the check of a statement answers: the flow rules' verdict of the tree that stands at a position, and where it ends. What
-- entering a transaction writes: what stands for it.
use Rattle.std.specs.Prelude.{◌≡◌, ℕ, ◌+◌, ◌*◌, ◌<◌, ◌≤◌, Bool, true, false, cond, eqb, length, Result, Ok, Err}
use mathlib.Core.List.{List, Memᴰ}
use Rattle.model.specs.Number.{Verdict, fine, refused}
use Rattle.model.specs.Limits.{variable_limit, role_limit, expression_depth}
use Rattle.model.specs.Bytes.{byte}
use Rattle.model.specs.Sets.{has}
use Rattle.model.specs.Policy.{Side, reading, trust, principals, roles, Accepted}
use Rattle.model.specs.Syntax.{Atom, Query, Stmt}
use Rattle.model.specs.Program.{got, variables, read_many, read_query, read_stmt}
use Rattle.model.specs.Fits.{Each, QueryFits, Fits}
use Rattle.model.specs.Order.{AtMost}
use Rattle.model.specs.Flow.{Around as Surroundings, outside, inside, under_expr, update_join, assigned, mutated, flow}
use Rattle.model.proofs.FlowParts.{Subset}
use Rattle.order.specs.Table.{Table, Knows, list_roles}
use Rattle.program.specs.declared.refused.Refused.{Refused}
use Rattle.program.specs.Answer.{Reached, reached, stopped, place_limit, refusal}
use Rattle.program.specs.Refused.{tells}
use Rattle.gathered.specs.Words.{expr_roles}
use Rattle.gathered.specs.declared.labels.Labels.{Labels}
use Rattle.gathered.specs.Labels.{LabelsBelow, all_below, LabelsAt}
use Rattle.context.specs.declared.judge.Written.{Written}
use Rattle.context.specs.declared.judge.Written.TheVariants.{Variable, Role}
use Rattle.context.specs.declared.around.Transaction.{Transaction}
use Rattle.context.specs.declared.around.Around.{Around}
use Rattle.context.specs.declared.around.Around.TheVariants as around
use Rattle.context.specs.declared.around.Context.{Context}
use Rattle.context.specs.Context.{Carried, with_labels, with_named, join_of, meet_of, ContextIs}
use Rattle.context.specs.Judge.{SetBelow, target_of, lies_in, MetBoth}

-- how far the check of a statement came that ends at a position: by its verdict, or by a number at a place
unfoldable pub checked_to : Verdict → ℕ → Reached
checked_to fine end = reached end
checked_to (refused k place) end = stopped k place

unfoldable pub numbered : ℕ → ℕ → ℕ → Reached
numbered k place end = cond (eqb k 0) (reached end) (stopped k place)

-- the same as an answer
unfoldable pub numbered_answer : ℕ → ℕ → ℕ → Result ℕ Refused
numbered_answer k place end = cond (eqb k 0) (Ok end) (Err (record { word = refusal k place }))

-- the code's transaction stands for one with these listed queries, variables and roles, under a policy of R roles and in a
-- program of vars variables
pub record Inside (p : List ℕ) (R vars : ℕ) (a : Transaction) (listed : List Query) (xs rs : ℕ) : Type 0 where
  pub end : ℕ
  pub listed_read : read_many (read_query p R) a.count a.list ≡ got listed end
  pub listed_below : (q : Query) → Memᴰ q listed → QueryFits R q
  pub named_are : a.named ≡ list_roles listed
  pub variables_are : a.variables ≡ xs
  pub variables_below : SetBelow xs vars
  pub roles_are : a.roles ≡ rs
  pub roles_below : SetBelow rs R

-- or there is none, and these are the roles among the labels of all variables
pub record Outside (p : List ℕ) (vars : ℕ) (a : Labels) : Type 0 where
  pub readers_are : a.readers ≡ expr_roles p reading (all_below vars)
  pub trusters_are : a.trusters ≡ expr_roles p trust (all_below vars)

-- and so for what surrounds a statement
abbrev pub AroundIs : List ℕ → ℕ → ℕ → Around → Surroundings → Type 0
AroundIs p R vars (around.Outside a) outside = Outside p vars a
AroundIs p R vars (around.Outside a) (inside listed xs rs) = ⊥
AroundIs p R vars (around.Inside a) outside = ⊥
AroundIs p R vars (around.Inside a) (inside listed xs rs) = Inside p R vars a listed xs rs

-- and what an update there, if there is one, is held to by the table t
abbrev pub MeetsAre : List ℕ → Table → Around → Surroundings → Type 0
MeetsAre p t (around.Outside a) w = Unit {0}
MeetsAre p t (around.Inside a) outside = Unit {0}
MeetsAre p t (around.Inside a) (inside listed xs rs) = (rs ≡ 0 → ⊥) → MetBoth p t xs rs a.meets

-- whether a transaction around was found to be free
abbrev pub found_free : Around → Bool
found_free (around.Outside a) = false
found_free (around.Inside a) = a.free

-- all that may flow in a transaction from a context on: the labels of all variables, the context, the labels of its listed queries
abbrev pub may_flow : List ℕ → List Query → (Side → List Atom) → Side → List Atom
may_flow p listed C side = update_join (under_expr p (all_below (variables p)) C) listed side

-- what a transaction writes
abbrev pub writes_of : ℕ → ℕ → Written → ℕ
writes_of xs rs Variable = xs
writes_of xs rs Role = rs

-- a transaction is free where all that may flow in it is at most all that it writes
unfoldable pub Free : List ℕ → List ℕ → Surroundings → List Query → (Side → List Atom) → Type 0
Free s p outside known C = Unit {0}
Free s p (inside listed xs rs) known C =
    (side : Side) (w : Written) (x : ℕ) (a : Atom) → has (writes_of xs rs w) x ≡ true → Memᴰ a (may_flow p listed C side) → AtMost s known a (target_of p side w x)

-- what the code carries to a statement stands for what the rules speak of there
pub record Stands (s p : List ℕ) (t : Table) (c : Carried) (around : Surroundings) (known : List Query) (C : Side → List Atom) : Type 0 where
  pub is_accepted : Accepted s
  pub short : length p < place_limit
  pub few : variables p ≤ variable_limit
  pub labels : LabelsBelow (roles s) p (variables p)
  pub knows : Knows s known t
  pub surrounded : AroundIs p (roles s) (variables p) c.around around
  pub met : MeetsAre p t c.around around
  pub free : found_free c.around ≡ true → Free s p around known C
  pub context : ContextIs (roles s) c.context C

-- the statement that was read at a position
abbrev pub StmtAt : List ℕ → List ℕ → ℕ → ℕ → Stmt → ℕ → Type 0
StmtAt s p depth at x end = read_stmt p (principals s) (roles s) (variables p) depth at ≡ got x end

-- what stands in a transaction assigns and mutates only what the transaction does
unfoldable pub Writes : Surroundings → Stmt → Type 0
Writes outside x = Unit {0}
Writes (inside listed xs rs) x = Subset (assigned x) xs × Subset (mutated x) rs

-- it names only what there is
abbrev pub StmtFits : List ℕ → List ℕ → Surroundings → Stmt → Type 0
StmtFits s p around x = Fits (principals s) (roles s) (variables p) x × Writes around x

-- r is the answer on the statement that stands at a position
unfoldable pub CheckedAt : List ℕ → List ℕ → Table → Carried → ℕ → ℕ → Result ℕ Refused → Type 0
CheckedAt s p t c depth at r =
    (around : Surroundings) (known : List Query) (C : Side → List Atom) (x : Stmt) (end : ℕ)
    → Stands s p t c around known C → StmtAt s p depth at x end → StmtFits s p around x
    → tells r ≡ checked_to (flow s p around known C x) end

-- r is where the expression that stands at a position ends, and its labels are joined to the context b
pub record JoinedAt (p : List ℕ) (at : ℕ) (b a : Context) (r : ℕ) : Type 0 where
  pub labels_at : LabelsAt p expression_depth at b.labels a.labels r
  pub same : a.asked ≡ b.asked

-- r is the answer on an assignment, under any policy and in any transaction, and of an update, by any table
unfoldable pub AssignAt : List ℕ → Table → Context → ℕ → Result ℕ Refused → Type 0
AssignAt p t l at r = (s : List ℕ) (c : Carried) (depth : ℕ) → c.context ≡ l → byte p at ≡ 1 → CheckedAt s p t c depth at r

unfoldable pub UpdateAt : List ℕ → List ℕ → Carried → ℕ → Result ℕ Refused → Type 0
UpdateAt s p c at r = (t : Table) (depth : ℕ) → byte p at ≡ 6 → CheckedAt s p t c depth at r

-- where a transaction's body starts: its count stands after the code, then its queries
abbrev pub body_start : List ℕ → ℕ → ℕ
body_start p at = at + 2 + 2 * byte p (at + 1)

-- r stands for the transaction that stands at a position
unfoldable pub EnteredAt : List ℕ → ℕ → ℕ → Transaction → Type 0
EnteredAt p depth at r =
    (P R vars : ℕ) (listed : List Query) (body : Stmt) (end : ℕ) → R ≤ role_limit → vars ≤ variable_limit → body_start p at ≤ length p
    → read_many (read_query p R) (byte p (at + 1)) (at + 2) ≡ got listed (body_start p at) → Each (QueryFits R) listed
    → read_stmt p P R vars depth (body_start p at) ≡ got body end → Fits P R vars body
    → Inside p R vars r listed (assigned body) (mutated body)

-- r is that transaction, entered in a context where all variables have the labels a: its updates are held to what they are by
-- the table t, and it is said to be free only where all that may flow lies in its meets
pub record Enters (p : List ℕ) (t : Table) (a : Labels) (l : Context) (depth at : ℕ) (r : Around) : Type 0 where
  pub transaction : Transaction
  pub is : r ≡ around.Inside transaction
  pub entered : EnteredAt p depth at transaction
  pub held : MetBoth p t transaction.variables transaction.roles transaction.meets
  pub free : transaction.free ≡ true → (side : Side) → lies_in (join_of side (with_named (with_labels l a.readers a.trusters) transaction.named)) (meet_of side transaction.meets) ≡ true
