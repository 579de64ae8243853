-- What the order says of an assignment and of an update, of any policy, known queries and context that the words stand for.
use Rattle.std.specs.Prelude.{◌≡◌, ℕ, ◌<◌, List, Bool, true, ◌&&◌, Result, Ok}
use Rattle.std.specs.Int.Bits.{bit_and}
use Rattle.model.specs.Number.{accepted, flow_reading, flow_trust, unless}
use Rattle.model.specs.Limits.{role_limit}
use Rattle.model.specs.Sets.{has, within}
use Rattle.model.specs.Policy.{Side, reading, trust, roles, Accepted}
use Rattle.model.specs.Syntax.{of, Atom, fixed, Query}
use Rattle.model.specs.Program.{variables}
use Rattle.model.specs.Order.{join_at_most}
use Rattle.model.specs.Flow.{label, each_of}
use Rattle.order.specs.Table.{Table, watched, Knows}
use Rattle.order.specs.declared.table.Row.{Row}
use Rattle.program.specs.declared.codes.Atom.{Atom as CodeAtom}
use Rattle.program.specs.Codes.{model_atom}
use Rattle.gathered.specs.Labels.{LabelsBelow}
use Rattle.context.specs.declared.around.Join.{Join}
use Rattle.context.specs.declared.judge.Written.{Written}
use Rattle.context.specs.declared.judge.Written.TheVariants.{Variable, Role}
use Rattle.context.specs.declared.around.Meets.{Meets}
use Rattle.context.specs.declared.around.Transaction.{Transaction}
use Rattle.context.specs.declared.around.Around.{Around}
use Rattle.context.specs.declared.around.Around.TheVariants.{Outside, Inside}
use Rattle.context.specs.declared.around.Context.{Context}
use Rattle.context.specs.Context.{join_of, meet_of, ContextIs}
use Rattle.program.specs.declared.codes.UnknownCode.{UnknownCode}

-- a set of numbers below n
abbrev pub SetBelow : ℕ → ℕ → Type 0
SetBelow set n = (i : ℕ) → has set i ≡ true → i < n

-- 17 unless the reading side is derivable, then 18 unless the trust side is
abbrev pub sides_number : Bool → Bool → ℕ
sides_number a b = unless a flow_reading (unless b flow_trust accepted)

-- what a write is held to: a variable to its label, a role to its viewers or trusters
abbrev pub target_of : List ℕ → Side → Written → ℕ → Atom
target_of p side Variable x = label p side x
target_of p side Role x = fixed (of side x)

-- how many variables and roles there are
abbrev pub limit_of : List ℕ → List ℕ → Written → ℕ
limit_of s p Variable = variables p
limit_of s p Role = roles s

-- what the code read is the model's atom
pub record Names (o : Result CodeAtom UnknownCode) (m : Atom) : Type 0 where
  pub named : CodeAtom
  pub is : o ≡ Ok named
  pub stands : model_atom named ≡ m

-- o is what the write of x is held to, where there is such a variable or role
unfoldable pub TargetAt : List ℕ → Side → Written → ℕ → Result CodeAtom UnknownCode → Type 0
TargetAt p side w x o =
    (s : List ℕ) → Accepted s → LabelsBelow (roles s) p (variables p) → x < limit_of s p w → Names o (target_of p side w x)

-- l stands for the context C under the policy s, and the table t for its order under the known queries
pub record Asked (s p : List ℕ) (t : Table) (l : Context) (known : List Query) (C : Side → List Atom) : Type 0 where
  pub is_accepted : Accepted s
  pub labels : LabelsBelow (roles s) p (variables p)
  pub knows : Knows s known t
  pub context : ContextIs (roles s) l C

-- r says whether the join j, which is that of a side, is at most what the write of x is held to
unfoldable pub OneBelow : List ℕ → Table → Join → Side → Written → ℕ → Bool → Type 0
OneBelow p t j side w x r =
    (s : List ℕ) (l : Context) (known : List Query) (C : Side → List Atom) → Asked s p t l known C → join_of side l ≡ j → x < limit_of s p w
    → r ≡ join_at_most s known (C side) (target_of p side w x)

-- whether it is at most what the writes of a whole set are held to
unfoldable pub all_above : List ℕ → List ℕ → List Query → (Side → List Atom) → Side → Written → ℕ → Bool
all_above s p known C side w set = each_of set (λ x. join_at_most s known (C side) (target_of p side w x)) role_limit

-- of variables and of roles
abbrev pub both_above : List ℕ → List ℕ → List Query → (Side → List Atom) → Side → ℕ → ℕ → Bool
both_above s p known C side xs rs = all_above s p known C side Variable xs && all_above s p known C side Role rs

-- whether a join lies in a meet
unfoldable pub lies_in : Join → Join → Bool
lies_in j m = within j.roles m.roles && within j.watchers m.watchers

-- what is in a meet and in one more row, and the meet of no rows
abbrev pub narrowed : Side → Join → Row → Join
narrowed side m r = record { roles = bit_and m.roles r.roles; watchers = bit_and m.watchers (watched side r) }

abbrev pub everything : Join
everything = record { roles = 0xffffffffffffffff; watchers = 0xffffffffffffffff }

-- a context lies in the meet n exactly when it lies in m and is at most what the write of x is held to
unfoldable pub MetOne : List ℕ → Table → Side → Written → ℕ → Join → Join → Type 0
MetOne p t side w x m n =
    (s : List ℕ) (l : Context) (known : List Query) (C : Side → List Atom) → Asked s p t l known C → x < limit_of s p w
    → lies_in (join_of side l) n ≡ lies_in (join_of side l) m && join_at_most s known (C side) (target_of p side w x)

-- the same of the writes of a whole set
unfoldable pub MetAll : List ℕ → Table → Side → Written → ℕ → Join → Join → Type 0
MetAll p t side w set m n =
    (s : List ℕ) (l : Context) (known : List Query) (C : Side → List Atom) → Asked s p t l known C → SetBelow set (limit_of s p w)
    → lies_in (join_of side l) n ≡ lies_in (join_of side l) m && all_above s p known C side w set

-- a context lies in the meet m exactly when it is at most all that is written
unfoldable pub Met : List ℕ → Table → Side → ℕ → ℕ → Join → Type 0
Met p t side xs rs m =
    (s : List ℕ) (l : Context) (known : List Query) (C : Side → List Atom) → Asked s p t l known C → SetBelow xs (variables p) → SetBelow rs (roles s)
    → lies_in (join_of side l) m ≡ both_above s p known C side xs rs

-- on each side
unfoldable pub MetBoth : List ℕ → Table → ℕ → ℕ → Meets → Type 0
MetBoth p t xs rs m = (side : Side) → Met p t side xs rs (meet_of side m)

-- b is the transaction a, with its updates, if there are any, held to what they are by the table t
pub record Holds (p : List ℕ) (t : Table) (a b : Transaction) : Type 0 where
  pub same : b ≡ record a { meets = b.meets }
  pub right : (a.roles ≡ 0 → ⊥) → MetBoth p t a.variables a.roles b.meets

-- the same of what surrounds a statement; outside a transaction it stays as it is
unfoldable pub Held : List ℕ → Table → Around → Around → Type 0
Held p t (Outside a) b = b ≡ Outside a
Held p t (Inside a) b = (x : Transaction) × (b ≡ Inside x) × Holds p t a x

-- the number of a context that is held to the meet of each side
abbrev pub held_number : Context → Meets → ℕ
held_number l m = sides_number (lies_in (join_of reading l) m.reading) (lies_in (join_of trust l) m.trust)

-- r is the number of an assignment to x
unfoldable pub AssignNumber : List ℕ → Table → Context → ℕ → ℕ → Type 0
AssignNumber p t l x r =
    (s : List ℕ) (known : List Query) (C : Side → List Atom) → Asked s p t l known C → x < variables p
    → r ≡ sides_number (join_at_most s known (C reading) (label p reading x)) (join_at_most s known (C trust) (label p trust x))
