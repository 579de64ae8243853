-- Reading a program from its bytes: the tree, or the number 10 to 14 with its place, at the first byte in reading order that shows one.
use Rattle.std.specs.Prelude.{ℕ, zero, suc, ◌+◌, ◌-◌, ◌*◌, List, [], ◌∷◌, cond, ◌||◌, eqb, ltb, leb, length}
use Rattle.model.specs.Limits.{program_bytes, variable_limit, statement_depth, expression_depth, list_limit}
use Rattle.model.specs.Number.{program_length, program_mark, program_code, program_range, program_depth}
use Rattle.model.specs.Bytes.{byte, word}
use Rattle.model.specs.Policy.{Side, reading, trust}
use Rattle.model.specs.Mutation.{Kind, addMember, deleteMember, addTaken, deleteTaken, Mutation}
use Rattle.model.specs.Syntax.{of, everyone, Atom, role, fixed, Query, Operator, sum, difference, product, quotient, less, equal, Expr, constant, variable, binary, Stmt, skip, assign, empty, block, if, while, query, update, transaction}

-- what reading finds: a value and the position after it, or a number and the place that shows it
pub data Read (A : Type 0) : Type 0 where
  got : A → ℕ → Read A
  bad : ℕ → ℕ → Read A

-- reading goes on after a value, and ends at a refusal
unfoldable pub and_then : {A B : Type 0} → Read A → (A → ℕ → Read B) → Read B
and_then (got x next) f = f x next
and_then (bad k place) f = bad k place

-- a byte that is there; a program that ends early shows it at its length
unfoldable pub read_byte : List ℕ → ℕ → Read ℕ
read_byte s at = cond (ltb at (length s)) (got (byte s at) (at + 1)) (bad program_length (length s))

-- a byte below a bound
unfoldable pub read_below : List ℕ → ℕ → ℕ → Read ℕ
read_below s bound at = and_then (read_byte s at) (λ x next. cond (ltb x bound) (got x next) (bad program_range at))

-- the bytes of a mark
unfoldable pub read_mark : List ℕ → List ℕ → ℕ → Read ℕ
read_mark s [] at = got 0 at
read_mark s (m ∷ ms) at = and_then (read_byte s at) (λ x next. cond (eqb x m) (read_mark s ms next) (bad program_mark at))

-- n things read one after the other
unfoldable pub read_many : {A : Type 0} → (ℕ → Read A) → ℕ → ℕ → Read (List A)
read_many sub zero at = got [] at
read_many sub (suc n) at = and_then (sub at) (λ x mid. and_then (read_many sub n mid) (λ xs end. got (x ∷ xs) end))

-- a program's version: 2 where its byte says so, else 1, and its head is held to that
unfoldable pub version : List ℕ → ℕ
version s = cond (eqb (byte s 3) 2) 2 1

-- the mark RXP and a version in 16 bits
abbrev pub program_head : ℕ → List ℕ
program_head v = 0x52 ∷ 0x58 ∷ 0x50 ∷ v ∷ 0 ∷ []

-- an atom's byte: C0–FE is none, and its role is below R
unfoldable pub atom_at : ℕ → ℕ → ℕ → ℕ → Read Atom
atom_at R at x next =
    cond (ltb x 0x40) (cond (ltb x R) (got (role x) next) (bad program_range at))
    (cond (ltb x 0x80) (cond (ltb (x - 0x40) R) (got (fixed (of reading (x - 0x40))) next) (bad program_range at))
    (cond (ltb x 0xc0) (cond (ltb (x - 0x80) R) (got (fixed (of trust (x - 0x80))) next) (bad program_range at))
    (cond (eqb x 0xff) (got (fixed everyone) next) (bad program_code at))))

unfoldable pub read_atom : List ℕ → ℕ → ℕ → Read Atom
read_atom s R at = and_then (read_byte s at) (atom_at R at)

-- a variable's label is a role or everyone; all else is 13
unfoldable pub read_label : List ℕ → ℕ → ℕ → Read ℕ
read_label s R at = and_then (read_byte s at) (λ x next. cond (ltb x R || eqb x 0xff) (got x next) (bad program_range at))

unfoldable pub read_query : List ℕ → ℕ → ℕ → Read Query
read_query s R at = and_then (read_atom s R at) (λ a mid. and_then (read_atom s R mid) (λ b end. got (record { first = a; second = b }) end))

-- kind, role, operand, judged in that order; the operand is a principal for kinds 00 and 01, a role for 02 and 03
unfoldable pub mutation_at : List ℕ → ℕ → Kind → ℕ → ℕ → Read Mutation
mutation_at s R kind bound at =
    and_then (read_below s R at)
    (λ r mid. and_then (read_below s bound mid) (λ x end. got (record { kind = kind; role = r; operand = x }) end))

unfoldable pub read_mutation : List ℕ → ℕ → ℕ → ℕ → Read Mutation
read_mutation s P R at =
    and_then (read_byte s at)
    (λ k next.
    cond (eqb k 0) (mutation_at s R addMember P next)
    (cond (eqb k 1) (mutation_at s R deleteMember P next)
    (cond (eqb k 2) (mutation_at s R addTaken R next)
    (cond (eqb k 3) (mutation_at s R deleteTaken R next) (bad program_code at)))))

-- an operator's two expressions, which `sub` reads
unfoldable pub binary_at : (ℕ → Read Expr) → Operator → ℕ → Read Expr
binary_at sub op at = and_then (sub at) (λ a mid. and_then (sub mid) (λ b end. got (binary op a b) end))

-- an expression after its code; `sub` reads those that it holds
unfoldable pub expr_at : List ℕ → ℕ → (ℕ → Read Expr) → ℕ → ℕ → ℕ → Read Expr
expr_at s vars sub at code next =
    cond (eqb code 0) (cond (leb (next + 4) (length s)) (got (constant (word s next 4)) (next + 4)) (bad program_length (length s)))
    (cond (eqb code 1) (and_then (read_below s vars next) (λ x end. got (variable x) end))
    (cond (eqb code 2) (binary_at sub sum next)
    (cond (eqb code 3) (binary_at sub difference next)
    (cond (eqb code 4) (binary_at sub product next)
    (cond (eqb code 5) (binary_at sub quotient next)
    (cond (eqb code 6) (binary_at sub less next)
    (cond (eqb code 7) (binary_at sub equal next) (bad program_code at))))))))

-- too deep is 14 before the code is read
unfoldable pub read_expr : List ℕ → ℕ → ℕ → ℕ → Read Expr
read_expr s vars zero at = bad program_depth at
read_expr s vars (suc depth) at = and_then (read_byte s at) (expr_at s vars (read_expr s vars depth) at)

-- the statements of a block as one
unfoldable pub block_of : List Stmt → Stmt
block_of [] = empty
block_of (x ∷ xs) = block x (block_of xs)

-- statements after their code; `sub` reads the statements that they hold
module _ (s : List ℕ) (P R vars : ℕ) (sub : ℕ → Read Stmt) where
  unfoldable pub assign_at : ℕ → ℕ → Read Stmt
  assign_at at next =
      and_then (read_below s vars next) (λ x mid. and_then (read_expr s vars expression_depth mid) (λ e end. got (assign at x e) end))

  unfoldable pub block_at : ℕ → Read Stmt
  block_at next = and_then (read_byte s next) (λ n mid. and_then (read_many sub n mid) (λ xs end. got (block_of xs) end))

  unfoldable pub if_at : ℕ → Read Stmt
  if_at next =
      and_then (read_expr s vars expression_depth next)
      (λ e p. and_then (sub p) (λ a q. and_then (sub q) (λ b end. got (if e a b) end)))

  unfoldable pub while_at : ℕ → Read Stmt
  while_at next = and_then (read_expr s vars expression_depth next) (λ e p. and_then (sub p) (λ a end. got (while e a) end))

  unfoldable pub query_at : ℕ → ℕ → Read Stmt
  query_at at next =
      and_then (read_query s R next)
      (λ k p. and_then (sub p) (λ a q. and_then (sub q) (λ b end. got (query at k a b) end)))

  -- 1 to 16 mutations
  unfoldable pub update_at : ℕ → ℕ → Read Stmt
  update_at at next =
      and_then (read_byte s next)
      (λ n mid.
      cond (ltb 0 n) (cond (leb n list_limit)
      (and_then (read_many (read_mutation s P R) n mid) (λ ms end. got (update at ms) end))
      (bad program_range next)) (bad program_range next))

  -- 0 to 16 listed queries, then the body
  unfoldable pub transaction_at : ℕ → ℕ → Read Stmt
  transaction_at at next =
      and_then (read_byte s next)
      (λ n mid.
      cond (leb n list_limit)
      (and_then (read_many (read_query s R) n mid) (λ qs start. and_then (sub start) (λ a end. got (transaction at start end qs a) end)))
      (bad program_range next))

  unfoldable pub stmt_at : ℕ → ℕ → ℕ → Read Stmt
  stmt_at at code next =
      cond (eqb code 0) (got skip next)
      (cond (eqb code 1) (assign_at at next)
      (cond (eqb code 2) (block_at next)
      (cond (eqb code 3) (if_at next)
      (cond (eqb code 4) (while_at next)
      (cond (eqb code 5) (query_at at next)
      (cond (eqb code 6) (update_at at next)
      (cond (eqb code 7) (transaction_at at next) (bad program_code at))))))))

unfoldable pub read_stmt : List ℕ → ℕ → ℕ → ℕ → ℕ → ℕ → Read Stmt
read_stmt s P R vars zero at = bad program_depth at
read_stmt s P R vars (suc depth) at = and_then (read_byte s at) (stmt_at s P R vars (read_stmt s P R vars depth) at)

-- V and its label bytes follow the mark
abbrev pub variables : List ℕ → ℕ
variables s = byte s 5

-- where the label of variable x stands on a side, its byte, and where the body starts
abbrev pub label_at : Side → ℕ → ℕ
label_at reading x = 6 + 2 * x
label_at trust x = 7 + 2 * x

abbrev pub label_byte : List ℕ → Side → ℕ → ℕ
label_byte s side x = byte s (label_at side x)

abbrev pub body_at : ℕ → ℕ
body_at vars = 6 + 2 * vars

-- one statement and nothing more
unfoldable pub read_body : List ℕ → ℕ → ℕ → ℕ → ℕ → Read Stmt
read_body s P R vars at =
    and_then (read_stmt s P R vars statement_depth at)
    (λ body end. cond (eqb end (length s)) (got body end) (bad program_length end))

-- a whole program under a policy of P principals and R roles
unfoldable pub read_program : List ℕ → ℕ → ℕ → Read Stmt
read_program s P R =
    cond (leb (length s) program_bytes)
    (and_then (read_mark s (program_head (version s)) 0)
    (λ _ p. and_then (read_below s (suc variable_limit) p)
    (λ vars q. and_then (read_many (read_label s R) (2 * vars) q)
    (λ _ at. read_body s P R vars at))))
    (bad program_length program_bytes)
