-- How a table grows by a query: every row that holds its second atom takes in its first atom's row.
use Rattle.std.specs.Prelude.{ℕ, ◌+◌, ◌<◌, ◌≤◌, ◌≡◌, cond, length}
use Rattle.model.specs.Syntax.{Atom}
use Rattle.model.specs.Fits.{AtomFits}
use Rattle.order.specs.declared.table.Row.{Row}
use Rattle.order.specs.Table.{Table, table_rows, row_of, row_in, holds, union}

-- a row that takes in the row `lower` where it holds the atom
abbrev pub grown : Atom → Row → Row → Row
grown a lower r = cond (holds r a) (union r lower) r

-- the rows u are the rows t, of which the first n have grown
pub record StartGrew (a : Atom) (lower : Row) (n : ℕ) (t u : Table) : Type 0 where
  pub long : length u ≡ length t
  pub inside : (y : ℕ) → y < n → row_in u y ≡ grown a lower (row_in t y)
  pub after : (y : ℕ) → n ≤ y → row_in u y ≡ row_in t y

-- u is the table t with `count` rows from `from` on grown
pub record Grew (a : Atom) (lower : Row) (from count : ℕ) (t u : Table) : Type 0 where
  pub long : length u ≡ table_rows
  pub before : (y : ℕ) → y < from → row_in u y ≡ row_in t y
  pub inside : (y : ℕ) → from ≤ y → y < from + count → row_in u y ≡ grown a lower (row_in t y)
  pub after : (y : ℕ) → from + count ≤ y → row_in u y ≡ row_in t y

-- u is the table t with the rows of everyone and of n roles' atoms grown
pub record AllGrew (a : Atom) (lower : Row) (n : ℕ) (t u : Table) : Type 0 where
  pub long : length u ≡ table_rows
  pub row : (b : Atom) → AtomFits n b → row_in u (row_of b) ≡ grown a lower (row_in t (row_of b))
