-- How the table with no query known comes about: words read from the fixed part, and rows made from them.
use Rattle.std.specs.Prelude.{ℕ, zero, suc, ◌+◌, ◌<◌, ◌≡◌, List, cond, length, get_or}
use Rattle.model.specs.Limits.{role_limit}
use Rattle.model.specs.Sets.{within, with}
use Rattle.model.specs.Policy.{Side, reading, trust, roles, viewers, trusters, Accepted}
use Rattle.model.specs.Syntax.{Atom}
use Rattle.model.specs.Fits.{AtomFits}
use Rattle.model.specs.Order.{base}
use Rattle.order.specs.declared.table.Row.{Row}
use Rattle.order.specs.declared.base.Words.{Words}
use Rattle.order.specs.declared.base.Watchers.{Watchers}
use Rattle.order.specs.declared.base.WatcherRows.{WatcherRows}
use Rattle.order.specs.Table.{viewers_at, trusters_at, Table, table_rows, row_of, row_in, union, with_role, row_has}

-- the word of a role's viewers (trusters)
abbrev pub word : Side → Watchers → ℕ
word reading w = w.viewers
word trust w = w.trusters

-- the words of role j
abbrev pub words_at : Words → ℕ → Watchers
words_at ws j = record { viewers = get_or ws.viewers j 0; trusters = get_or ws.trusters j 0 }

-- the viewers and the trusters of role j of a policy
abbrev pub watchers_of : List ℕ → ℕ → Watchers
watchers_of s j = record { viewers = viewers s j; trusters = trusters s j }

-- words that are the viewers and the trusters of the first n roles of a policy
pub record Loaded (s : List ℕ) (n : ℕ) (ws : Words) : Type 0 where
  pub roles_are : ws.count ≡ roles s
  pub viewers_room : length ws.viewers ≡ role_limit
  pub trusters_room : length ws.trusters ≡ role_limit
  pub right : (j : ℕ) → j < n → words_at ws j ≡ watchers_of s j

-- words that are those of all its roles
abbrev pub WordsOf : List ℕ → Words → Type 0
WordsOf s ws = Loaded s (roles s) ws

-- those of the first n roles whose word holds the whole set low
unfoldable pub holders : Side → Words → ℕ → ℕ → ℕ
holders side ws low zero = 0
holders side ws low (suc n) = cond (within low (word side (words_at ws n))) (with (holders side ws low n) n) (holders side ws low n)

-- the row of an atom that stands for the set low
abbrev pub fixed_row : Words → ℕ → Row
fixed_row ws low = record { roles = 0; viewers = holders reading ws low ws.count; trusters = holders trust ws low ws.count }

-- u is the table t with new rows for role j, its viewers and its trusters
pub record RoleRows (x : WatcherRows) (j : ℕ) (t u : Table) : Type 0 where
  pub long : length u ≡ table_rows
  pub viewers_row : row_in u (viewers_at + j) ≡ x.viewers
  pub trusters_row : row_in u (trusters_at + j) ≡ x.trusters
  pub role_row : row_in u j ≡ with_role (union x.viewers x.trusters) j
  pub others : (y : ℕ) → (y ≡ j → ⊥) → (y ≡ viewers_at + j → ⊥) → (y ≡ trusters_at + j → ⊥) → row_in u y ≡ row_in t y

-- the rows of a role's viewers and trusters, whose words are w
pub record RowsOf (ws : Words) (w : Watchers) (x : WatcherRows) : Type 0 where
  pub by_viewers : x.viewers ≡ fixed_row ws w.viewers
  pub by_trusters : x.trusters ≡ fixed_row ws w.trusters

-- a table whose rows of everyone and of the first n roles' atoms are those of no known query
pub record Based (s : List ℕ) (n : ℕ) (t : Table) : Type 0 where
  pub long : length t ≡ table_rows
  pub right : (a b : Atom) → AtomFits (roles s) a → AtomFits n b → row_has t (row_of b) a ≡ base s a b

-- if t has the row of everyone, u has that and those of the first j roles' atoms
pub record Filled (ws : Words) (j : ℕ) (t u : Table) : Type 0 where
  pub long : length u ≡ table_rows
  pub grows : (s : List ℕ) → Accepted s → WordsOf s ws → Based s 0 t → Based s j u
