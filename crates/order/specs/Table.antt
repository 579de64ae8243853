-- The order between labels as a table of rows: row b holds, as bits, the atoms that are at most b.
use Rattle.std.specs.Prelude.{ℕ, ◌+◌, ◌*◌, ◌≡◌, Bool, true, cond, ltb, length, get_or}
use mathlib.Core.List.{List, [], ◌∷◌, Memᴰ}
use Rattle.std.specs.Int.Bits.{bit_or}
use Rattle.model.specs.Limits.{role_limit}
use Rattle.model.specs.Sets.{has, with}
use Rattle.model.specs.Policy.{Side, reading, trust, roles, Accepted}
use Rattle.model.specs.Syntax.{of, everyone, Atom, role, fixed, Query}
use Rattle.model.specs.Fits.{Each, AtomFits, QueryFits}
use Rattle.model.specs.Order.{at_most, join_at_most}
use Rattle.shared.specs.Words.{single}
use Rattle.program.specs.declared.codes.Atom.{Atom as CodeAtom}
use Rattle.program.specs.declared.codes.Atom.TheVariants.{Role, Viewers, Trusters, Everyone}
use Rattle.program.specs.Codes.{model_atom}
use Rattle.order.specs.declared.table.Row.{Row}

-- where the rows of viewers, trusters and everyone begin; those of roles are the first
abbrev pub viewers_at : ℕ
viewers_at = role_limit

abbrev pub trusters_at : ℕ
trusters_at = 2 * role_limit

abbrev pub everyone_at : ℕ
everyone_at = 3 * role_limit

-- a table, one row after the other
abbrev pub Table : Type 0
Table = List Row

-- how many rows a table has, one for each atom, 193
abbrev pub table_rows : ℕ
table_rows = everyone_at + 1

-- an atom's row
abbrev pub row_of : Atom → ℕ
row_of (role j) = j
row_of (fixed (of reading j)) = viewers_at + j
row_of (fixed (of trust j)) = trusters_at + j
row_of (fixed everyone) = everyone_at

-- row j of those that begin at `from`, where there is one; else everyone's
unfoldable pub slot : ℕ → ℕ → ℕ
slot from j = cond (ltb j role_limit) (from + j) everyone_at

-- where the code finds an atom's row
abbrev pub index_of : CodeAtom → ℕ
index_of (Role j) = slot 0 j
index_of (Viewers j) = slot viewers_at j
index_of (Trusters j) = slot trusters_at j
index_of Everyone = everyone_at

-- a row that no atom is in
abbrev pub empty_row : Row
empty_row = record { roles = 0; viewers = 0; trusters = 0 }

-- row y
abbrev pub row_in : Table → ℕ → Row
row_in t y = get_or t y empty_row

-- the roles whose viewers (trusters) are in a row
abbrev pub watched : Side → Row → ℕ
watched reading r = r.viewers
watched trust r = r.trusters

-- whether an atom is in a row; everyone is in every row
abbrev pub holds : Row → Atom → Bool
holds r (role j) = has r.roles j
holds r (fixed (of side j)) = has (watched side r) j
holds r (fixed everyone) = true

-- the atoms of both rows
abbrev pub union : Row → Row → Row
union r l = record { roles = bit_or r.roles l.roles; viewers = bit_or r.viewers l.viewers; trusters = bit_or r.trusters l.trusters }

-- the row with a role
abbrev pub with_role : Row → ℕ → Row
with_role r j = record { roles = with r.roles j; viewers = r.viewers; trusters = r.trusters }

-- whether an atom is in row y
abbrev pub row_has : Table → ℕ → Atom → Bool
row_has t y a = holds (row_in t y) a

-- the table of a policy under known queries
pub record Knows (s : List ℕ) (known : List Query) (t : Table) : Type 0 where
  pub long : length t ≡ table_rows
  pub decides : (a b : Atom) → AtomFits (roles s) a → AtomFits (roles s) b → row_has t (row_of b) a ≡ at_most s known a b

-- a join on one side as two words: its roles, and the roles whose viewers (trusters) are in it; everyone may be left out
pub record Joins (side : Side) (join : List Atom) (rs ws : ℕ) : Type 0 where
  pub role_in : (j : ℕ) → Memᴰ (role j) join → has rs j ≡ true
  pub role_out : (j : ℕ) → has rs j ≡ true → Memᴰ (role j) join
  pub fixed_in : (side' : Side) (j : ℕ) → Memᴰ (fixed (of side' j)) join → (side' ≡ side) × (has ws j ≡ true)
  pub fixed_out : (j : ℕ) → has ws j ≡ true → Memᴰ (fixed (of side j)) join

-- the atoms of a join are atoms of a policy with n roles
abbrev pub JoinBelow : ℕ → List Atom → Type 0
JoinBelow n join = Each (AtomFits n) join

-- the role that an atom names, as a set; everyone names none
abbrev pub named_role : Atom → ℕ
named_role (role j) = single j
named_role (fixed (of side j)) = single j
named_role (fixed everyone) = 0

-- the roles named in a query's atoms, and in those of all listed queries
abbrev pub query_roles : Query → ℕ
query_roles q = bit_or (named_role q.first) (named_role q.second)

unfoldable pub list_roles : List Query → ℕ
list_roles [] = 0
list_roles (q ∷ qs) = bit_or (query_roles q) (list_roles qs)

-- the query of two atoms of the code
abbrev pub query_of : CodeAtom → CodeAtom → Query
query_of a b = record { first = model_atom a; second = model_atom b }

-- u is the table t, of a policy with n roles, with one more query known
unfoldable pub Learnt : ℕ → Table → Table → Query → Type 0
Learnt n t u q =
    (s : List ℕ) (known : List Query) → Accepted s → roles s ≡ n → QueryFits n q → Knows s known t → Knows s (q ∷ known) u

-- r says whether a query's first atom is at most its second, by the table t
unfoldable pub DecidesQuery : Table → Query → Bool → Type 0
DecidesQuery t q r =
    (s : List ℕ) (known : List Query) → Accepted s → QueryFits (roles s) q → Knows s known t → r ≡ at_most s known q.first q.second

-- r says whether a join that two words stand for is at most the atom b, by the table t
unfoldable pub Decides : Table → Side → ℕ → ℕ → Atom → Bool → Type 0
Decides t side rs ws b r =
    (s : List ℕ) (known : List Query) (join : List Atom) → Accepted s → Knows s known t
    → Joins side join rs ws → JoinBelow (roles s) join → AtomFits (roles s) b → r ≡ join_at_most s known join b
