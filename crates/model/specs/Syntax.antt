-- The program of document 01 as trees: atoms, expressions, statements.
use Rattle.std.specs.Prelude.{ℕ, ◌+◌, List, Bool, ◌&&◌, eqb}
use Rattle.model.specs.Policy.{Side, reading, trust}
use Rattle.model.specs.Mutation.{Mutation}

-- atoms whose sets the fixed part gives: a role's viewers (reading) or trusters (trust), and everyone
pub data Fixed : Type 0 where
  of : Side → ℕ → Fixed
  everyone : Fixed

pub data Atom : Type 0 where
  role : ℕ → Atom
  fixed : Fixed → Atom

-- an atom's byte: 00–3F a role, 40–7F its viewers, 80–BF its trusters, FF everyone
abbrev pub atom_byte : Atom → ℕ
atom_byte (role j) = j
atom_byte (fixed (of reading j)) = 0x40 + j
atom_byte (fixed (of trust j)) = 0x80 + j
atom_byte (fixed everyone) = 0xff

-- a query holds when the second atom's set lies in the first's; known, it makes the first at most the second
pub record Query : Type 0 where
  pub first : Atom
  pub second : Atom

-- a pair is the same when both bytes are
abbrev pub same_query : Query → Query → Bool
same_query q k = eqb (atom_byte q.first) (atom_byte k.first) && eqb (atom_byte q.second) (atom_byte k.second)

-- the operators that a byte names, and the quotient of version 2, which none does: there an expression's quotient is this one
pub data Operator : Type 0 where
  sum difference product quotient less equal rounded : Operator

-- a constant as 32 bits, a variable, an operator of two expressions
pub data Expr : Type 0 where
  constant : ℕ → Expr
  variable : ℕ → Expr
  binary : Operator → Expr → Expr → Expr

-- A block is its first statement with the block of the rest, down to the empty block. The statements that the flow
-- rules can refuse carry the place of their code byte; a transaction also where its body starts and ends.
pub data Stmt : Type 0 where
  skip : Stmt
  assign : (place : ℕ) → (target : ℕ) → Expr → Stmt
  empty : Stmt
  block : Stmt → Stmt → Stmt
  if : Expr → Stmt → Stmt → Stmt
  while : Expr → Stmt → Stmt
  query : (place : ℕ) → Query → Stmt → Stmt → Stmt
  update : (place : ℕ) → List Mutation → Stmt
  transaction : (place : ℕ) → (start end : ℕ) → List Query → Stmt → Stmt
