-- Back, from a tree that was read to the bytes that it stands in (`Reading` goes forward, from any bytes to what reading
-- gives): a refusal gives no tree, so each check of the reading held. Of each kind of expression and statement, what stands
-- after its code, where its parts were read and what was made of them. Depth, position and tree are those of the whole.
use mathlib.Core.Path.{◌≡◌, refl, sym, ap, ◌∙◌}
use mathlib.Core.Logic.{◌⊎◌, inl, inr, ⊎_elim}
use Prim.Native.Nat.{ℕ, zero, suc, ◌+◌, ◌-◌, ◌*◌, ◌<◌, ◌≤◌}
use mathlib.Core.List.{List, [], ◌∷◌}
use mathlib.Core.Bool.{Bool, true, false, cond}
use native.Mathlib.Omega.{arith}
use lib.Dec.{eqb, ltb, leb}
use lib.ListN.{length}
use borrow.Author.Tests.{ltb-true, ltb-false, leb-true, eqb-true, ne_eqb}
use Rattle.model.specs.Limits.{expression_depth, list_limit}
use Rattle.model.specs.Number.{program_range}
use Rattle.model.specs.Bytes.{byte, word}
use Rattle.model.specs.Policy.{reading, trust}
use Rattle.model.specs.Mutation.{Kind, addMember, deleteMember, addTaken, deleteTaken, Mutation}
use Rattle.model.specs.Syntax.{of, Atom, role, fixed, atom_byte, Query, Operator, sum, difference, product, quotient, less, equal, rounded, Expr, constant, variable, binary, Stmt, skip, assign, if, while, query, update, transaction}
use Rattle.model.specs.Program.{Read, got, bad, and_then, read_byte, read_below, read_many, atom_at, read_atom, read_query, mutation_at, read_mutation, binary_at, expr_at, read_expr, block_of, assign_at, block_at, if_at, while_at, query_at, update_at, transaction_at, stmt_at, read_stmt}

-- a refusal gives nothing
pub refused_not : {A : Type 0} {k place : ℕ} {x : A} {end : ℕ} → ◌≡◌ {A = Read A} (bad k place) (got x end) → ⊥
refused_not e = let z : ◌≡◌ {A = ℕ} 0 1 = cc in omega arith

-- one reading after another: what the first gave, and where
pub record Then {A B : Type 0} (r : Read A) (f : A → ℕ → Read B) (y : B) (end : ℕ) : Type 0 where
  pub value : A
  pub mid : ℕ
  pub first : r ≡ got value mid
  pub after : f value mid ≡ got y end

module _ {A : Type 0} where
  pub then_parts : {B : Type 0} (r : Read A) (f : A → ℕ → Read B) {y : B} {end : ℕ} → and_then r f ≡ got y end → Then r f y end
  unfolding and_then
  then_parts (got x mid) f e = record { value = x; mid = mid; first = refl; after = e }
  then_parts (bad k place) f e = absurd (refused_not e)

  -- a check that ends the reading held
  pub pick_parts : (b : Bool) (r : Read A) (k place : ℕ) {x : A} {end : ℕ} → cond b r (bad k place) ≡ got x end → (b ≡ true) × (r ≡ got x end)
  pick_parts true r k place e = (refl, e)
  pick_parts false r k place e = absurd (refused_not e)

  -- one of two readings was made
  pub either_parts : (b : Bool) (r q : Read A) {x : A} {end : ℕ} → cond b r q ≡ got x end → ((b ≡ true) × (r ≡ got x end)) ⊎ ((b ≡ false) × (q ≡ got x end))
  either_parts true r q e = inl (refl, e)
  either_parts false r q e = inr (refl, e)

  pub same_value : {x y : A} {m n : ℕ} → ◌≡◌ {A = Read A} (got x m) (got y n) → (y ≡ x) × (n ≡ m)
  same_value e = ((cc), (cc))

module _ (p : List ℕ) (at : ℕ) where
  pub byte_parts : {x end : ℕ} → read_byte p at ≡ got x end → (at < length p) × (x ≡ byte p at) × (end ≡ at + 1)
  unfolding read_byte
  byte_parts e = let u = pick_parts (ltb at (length p)) _ _ _ e in let v = same_value u.1 in (ltb-true _ _ u.0, v.0, v.1)

  pub below_parts : (bound : ℕ) {x end : ℕ} → read_below p bound at ≡ got x end → (at < length p) × (x ≡ byte p at) × (x < bound) × (end ≡ at + 1)
  unfolding read_below
  below_parts bound e =
      let u = then_parts (read_byte p at) _ e in
      let b = byte_parts u.first in
      let v = pick_parts (ltb u.value bound) _ _ _ u.after in
      let s = same_value v.1 in
      (b.0, s.0 ∙ b.1, rw s.0 (ltb-true _ _ v.0), s.1 ∙ b.2)

-- n things one after the other: none, or the first and the others
pub record Cons {A : Type 0} (sub : ℕ → Read A) (n at : ℕ) (xs : List A) (end : ℕ) : Type 0 where
  pub head : A
  pub tail : List A
  pub mid : ℕ
  pub head_read : sub at ≡ got head mid
  pub tail_read : read_many sub (n - 1) mid ≡ got tail end
  pub is : xs ≡ head ∷ tail

module _ {A : Type 0} (sub : ℕ → Read A) where
  pub many_none : (n at : ℕ) {xs : List A} {end : ℕ} → read_many sub n at ≡ got xs end → n ≤ 0 → (xs ≡ []) × (end ≡ at)
  unfolding read_many
  many_none zero at e h = same_value e
  many_none (suc n) at e h = absurd (omega arith)

  pub many_more : (n at : ℕ) {xs : List A} {end : ℕ} → read_many sub n at ≡ got xs end → 0 < n → Cons sub n at xs end
  unfolding read_many
  many_more zero at e h = absurd (omega arith)
  many_more (suc n) at e h =
      let u = then_parts (sub at) _ e in
      let v = then_parts (read_many sub n u.mid) _ u.after in
      let s = same_value v.after in
      let k : suc n - 1 ≡ n = omega arith in
      record {
        head = u.value;
        tail = v.value;
        mid = u.mid;
        head_read = u.first;
        tail_read = cc (k, s.1, v.first);
        is = s.0;
      }

  -- things of one size within the bytes
  pub many_end : (p : List ℕ) (size n at : ℕ) {xs : List A} {end : ℕ} → ((at : ℕ) (x : A) (end : ℕ) → sub at ≡ got x end → (end ≡ at + size) × (end ≤ length p)) → read_many sub n at ≡ got xs end → at ≤ length p → (end ≡ at + size * n) × (end ≤ length p)
  unfolding read_many
  many_end p size zero at f e h = let s = same_value e in (omega arith, omega arith)
  many_end p size (suc n) at f e h =
      let u = then_parts (sub at) _ e in
      let v = then_parts (read_many sub n u.mid) _ u.after in
      let s = same_value v.after in
      let a = f at _ _ u.first in
      let b = many_end p size n u.mid f v.first a.1 in
      (omega arith, omega arith)

-- atoms and queries
module _ (p : List ℕ) (R at : ℕ) where
  atom_at_parts : (x next : ℕ) {a : Atom} {end : ℕ} → atom_at R at x next ≡ got a end → (atom_byte a ≡ x) × (end ≡ next)
  unfolding atom_at
  atom_at_parts x next {a} {end} e =
      ⊎_elim (λ h. same (λ j. role j) x h.1 refl)
      (λ h. ⊎_elim (λ g. same (λ j. fixed (of reading j)) (x - 0x40) g.1 (omega (arith, ltb-false x 0x40 h.0)))
      (λ h. ⊎_elim (λ g. same (λ j. fixed (of trust j)) (x - 0x80) g.1 (omega (arith, ltb-false x 0x80 h.0)))
      (λ h.
      let g = pick_parts (eqb x 0xff) _ _ _ h.1 in
      let v = same_value g.1 in
      (rw v.0 (sym (eqb-true x 0xff g.0)), v.1))
      (either_parts (ltb x 0xc0) _ _ h.1))
      (either_parts (ltb x 0x80) _ _ h.1))
      (either_parts (ltb x 0x40) _ _ e)
    where
      same : (f : ℕ → Atom) (j : ℕ) → cond (ltb j R) (got (f j) next) (bad program_range at) ≡ got a end → atom_byte (f j) ≡ x → (atom_byte a ≡ x) × (end ≡ next)
      same f j h g = let v = same_value (pick_parts (ltb j R) _ _ _ h).1 in (rw v.0 g, v.1)

  pub atom_parts : {a : Atom} {end : ℕ} → read_atom p R at ≡ got a end → (at < length p) × (atom_byte a ≡ byte p at) × (end ≡ at + 1)
  unfolding read_atom
  atom_parts e =
      let u = then_parts (read_byte p at) _ e in
      let b = byte_parts p at u.first in
      let v = atom_at_parts u.value u.mid u.after in
      (b.0, v.0 ∙ b.1, v.1 ∙ b.2)

-- a query's two atoms, the second after the first
pub record QueryParts (p : List ℕ) (R at : ℕ) (q : Query) (end : ℕ) : Type 0 where
  pub inside : at + 2 ≤ length p
  pub first_byte : atom_byte q.first ≡ byte p at
  pub second_byte : atom_byte q.second ≡ byte p (at + 1)
  pub ends : end ≡ at + 2

pub query_parts : (p : List ℕ) (R at : ℕ) {q : Query} {end : ℕ} → read_query p R at ≡ got q end → QueryParts p R at q end
unfolding read_query
query_parts p R at e =
    let u = then_parts (read_atom p R at) _ e in
    let v = then_parts (read_atom p R u.mid) _ u.after in
    let a = atom_parts p R at u.first in
    let b = atom_parts p R u.mid v.first in
    let s = same_value v.after in
    record {
      inside = omega arith;
      first_byte = rw s.0 a.1;
      second_byte = rw s.0 (b.1 ∙ ap (byte p) a.2);
      ends = omega arith;
    }

-- n queries
pub queries_end : (p : List ℕ) (R n at : ℕ) {qs : List Query} {end : ℕ} → read_many (read_query p R) n at ≡ got qs end → at ≤ length p → (end ≡ at + 2 * n) × (end ≤ length p)
queries_end p R n at = many_end (read_query p R) p 2 n at (λ at x end e. let u = query_parts p R at e in (u.ends, omega arith))

-- a mutation's kind, role and operand
abbrev pub kind_code : Kind → ℕ
kind_code addMember = 0
kind_code deleteMember = 1
kind_code addTaken = 2
kind_code deleteTaken = 3

pub record MutationParts (p : List ℕ) (R at : ℕ) (m : Mutation) (end : ℕ) : Type 0 where
  pub inside : at + 3 ≤ length p
  pub kind_byte_lem : kind_code m.kind ≡ byte p at
  pub role_byte : m.role ≡ byte p (at + 1)
  pub role_fits : m.role < R
  pub operand_byte : m.operand ≡ byte p (at + 2)
  pub ends : end ≡ at + 3

module _ (p : List ℕ) (P R at : ℕ) where
  mutation_at_parts : (kind : Kind) (bound : ℕ) {m : Mutation} {end : ℕ} → at < length p → kind_code kind ≡ byte p at → mutation_at p R kind bound (at + 1) ≡ got m end → MutationParts p R at m end
  unfolding mutation_at
  mutation_at_parts kind bound {m} l k e =
      let u = then_parts (read_below p R (at + 1)) _ e in
      let v = then_parts (read_below p bound u.mid) _ u.after in
      let a = below_parts p (at + 1) R u.first in
      let b = below_parts p u.mid bound v.first in
      let s = same_value v.after in
      let i : u.mid ≡ at + 2 = omega arith in
      record {
        inside = omega arith;
        kind_byte_lem = rw s.0 k;
        role_byte = rw s.0 a.1;
        role_fits = rw s.0 a.2;
        operand_byte = rw s.0 (b.1 ∙ ap (byte p) i);
        ends = omega arith;
      }

  pub mutation_parts : {m : Mutation} {end : ℕ} → read_mutation p P R at ≡ got m end → MutationParts p R at m end
  unfolding read_mutation
  mutation_parts {m} {end} e =
      let u = then_parts (read_byte p at) _ e in
      let b = byte_parts p at u.first in
      let w = rw (b.1, b.2) at u.after in
      ⊎_elim (λ h. mutation_at_parts addMember P b.0 (sym (eqb-true (byte p at) 0 h.0)) h.1)
      (λ h. ⊎_elim (λ h. mutation_at_parts deleteMember P b.0 (sym (eqb-true (byte p at) 1 h.0)) h.1)
      (λ h. ⊎_elim (λ h. mutation_at_parts addTaken R b.0 (sym (eqb-true (byte p at) 2 h.0)) h.1)
      (λ h.
      let g = pick_parts (eqb (byte p at) 3) _ _ _ h.1 in
      mutation_at_parts deleteTaken R b.0 (sym (eqb-true (byte p at) 3 g.0)) g.1)
      (either_parts (eqb (byte p at) 2) _ _ h.1))
      (either_parts (eqb (byte p at) 1) _ _ h.1))
      (either_parts (eqb (byte p at) 0) _ _ w)

-- n mutations
pub mutations_end : (p : List ℕ) (P R n at : ℕ) {ms : List Mutation} {end : ℕ} → read_many (read_mutation p P R) n at ≡ got ms end → at ≤ length p → (end ≡ at + 3 * n) × (end ≤ length p)
mutations_end p P R n at = many_end (read_mutation p P R) p 3 n at (λ at x end e. let u = mutation_parts p P R at e in (u.ends, omega arith))

-- expressions: an operator's code, and for the quotient of version 2, which no byte names, the next one
abbrev pub operator_code : Operator → ℕ
operator_code sum = 2
operator_code difference = 3
operator_code product = 4
operator_code quotient = 5
operator_code less = 6
operator_code equal = 7
operator_code rounded = 8

pub record BinaryParts (p : List ℕ) (vars d at : ℕ) (op : Operator) (e : Expr) (end : ℕ) : Type 0 where
  pub left : Expr
  pub mid : ℕ
  pub left_read : read_expr p vars (d - 1) (at + 1) ≡ got left mid
  pub right : Expr
  pub right_read : read_expr p vars (d - 1) mid ≡ got right end
  pub is : e ≡ binary op left right

pub record VariableParts (p : List ℕ) (vars at : ℕ) (e : Expr) (end : ℕ) : Type 0 where
  pub inside : at + 2 ≤ length p
  pub fits : byte p (at + 1) < vars
  pub ends : end ≡ at + 2
  pub is : e ≡ variable (byte p (at + 1))

pub record ConstantParts (p : List ℕ) (at : ℕ) (e : Expr) (end : ℕ) : Type 0 where
  pub inside : at + 5 ≤ length p
  pub ends : end ≡ at + 5
  pub is : e ≡ constant (word p (at + 1) 4)

-- a byte past the codes is none of them
past_codes : (b : ℕ) → 7 < b → (c : ℕ) → c ≤ 7 → eqb b c ≡ false
past_codes b l c m = ne_eqb b c (λ e. omega arith)

-- an expression that stands at a position, by its code
module _ (p : List ℕ) (vars d at : ℕ) {e : Expr} {end : ℕ} (h : read_expr p vars d at ≡ got e end) where
  expr_coded : (0 < d) × (at < length p) × (expr_at p vars (read_expr p vars (d - 1)) at (byte p at) (at + 1) ≡ got e end)
  unfolding read_expr
  expr_coded = go d h
    where
      go : (d : ℕ) → read_expr p vars d at ≡ got e end → (0 < d) × (at < length p) × (expr_at p vars (read_expr p vars (d - 1)) at (byte p at) (at + 1) ≡ got e end)
      go zero h = absurd (refused_not h)
      go (suc d) h =
          let u = then_parts (read_byte p at) _ h in
          let b = byte_parts p at u.first in
          let k : suc d - 1 ≡ d = omega arith in
          (omega arith, b.0, rw k (rw (b.1, b.2) at u.after))

  pub expr_deep : d ≡ 0 → ⊥
  expr_deep z = let u = expr_coded in omega arith

  pub expr_there : at < length p
  expr_there = expr_coded.1

  pub constant_parts : byte p at ≡ 0 → ConstantParts p at e end
  unfolding expr_at
  constant_parts c =
      let u = rw c at expr_coded.2 in
      let v = pick_parts (leb (at + 1 + 4) (length p)) _ _ _ u in
      let s = same_value v.1 in
      record { inside = omega (arith, leb-true (at + 1 + 4) (length p) v.0); ends = omega arith; is = s.0 }

  pub variable_parts : byte p at ≡ 1 → VariableParts p vars at e end
  unfolding expr_at
  variable_parts c =
      let u = then_parts (read_below p vars (at + 1)) _ (rw c at expr_coded.2) in
      let b = below_parts p (at + 1) vars u.first in
      let s = same_value u.after in
      record { inside = omega arith; fits = rw (← b.1) b.2; ends = omega arith; is = s.0 ∙ ap variable b.1 }

  operands : (op : Operator) → byte p at ≡ operator_code op → binary_at (read_expr p vars (d - 1)) op (at + 1) ≡ got e end
  unfolding expr_at
  operands sum c = rw c at expr_coded.2
  operands difference c = rw c at expr_coded.2
  operands product c = rw c at expr_coded.2
  operands quotient c = rw c at expr_coded.2
  operands less c = rw c at expr_coded.2
  operands equal c = rw c at expr_coded.2
  operands rounded c = absurd (refused_not (rw c at expr_coded.2))

  pub binary_parts : (op : Operator) → byte p at ≡ operator_code op → BinaryParts p vars d at op e end
  unfolding binary_at
  binary_parts op c =
      let u = then_parts (read_expr p vars (d - 1) (at + 1)) _ (operands op c) in
      let v = then_parts (read_expr p vars (d - 1) u.mid) _ u.after in
      let s = same_value v.after in
      record {
        left = u.value;
        mid = u.mid;
        left_read = u.first;
        right = v.value;
        right_read = cc (s.1, v.first);
        is = s.0;
      }

  -- a byte that is no code gives nothing
  pub expr_known : byte p at ≤ 7
  unfolding expr_at
  expr_known =
      let no : 7 < byte p at → ⊥ = λ l.
      let n = past_codes (byte p at) l in
      refused_not (simp (n 0 (omega arith), n 1 (omega arith), n 2 (omega arith), n 3 (omega arith), n 4 (omega arith), n 5 (omega arith), n 6 (omega arith), n 7 (omega arith)) at expr_coded.2) in
      omega arith

-- statements
pub record AssignParts (p : List ℕ) (vars at : ℕ) (x : Stmt) (end : ℕ) : Type 0 where
  pub inside : at + 2 ≤ length p
  pub fits : byte p (at + 1) < vars
  pub value : Expr
  pub value_read : read_expr p vars expression_depth (at + 2) ≡ got value end
  pub is : x ≡ assign at (byte p (at + 1)) value

pub record BlockParts (p : List ℕ) (P R vars d at : ℕ) (x : Stmt) (end : ℕ) : Type 0 where
  pub inside : at + 2 ≤ length p
  pub parts : List Stmt
  pub parts_read : read_many (read_stmt p P R vars (d - 1)) (byte p (at + 1)) (at + 2) ≡ got parts end
  pub is : x ≡ block_of parts

pub record IfParts (p : List ℕ) (P R vars d at : ℕ) (x : Stmt) (end : ℕ) : Type 0 where
  pub test : Expr
  pub start : ℕ
  pub test_read : read_expr p vars expression_depth (at + 1) ≡ got test start
  pub left : Stmt
  pub mid : ℕ
  pub left_read : read_stmt p P R vars (d - 1) start ≡ got left mid
  pub right : Stmt
  pub right_read : read_stmt p P R vars (d - 1) mid ≡ got right end
  pub is : x ≡ if test left right

pub record WhileParts (p : List ℕ) (P R vars d at : ℕ) (x : Stmt) (end : ℕ) : Type 0 where
  pub test : Expr
  pub start : ℕ
  pub test_read : read_expr p vars expression_depth (at + 1) ≡ got test start
  pub body : Stmt
  pub body_read : read_stmt p P R vars (d - 1) start ≡ got body end
  pub is : x ≡ while test body

pub record BranchParts (p : List ℕ) (P R vars d at : ℕ) (x : Stmt) (end : ℕ) : Type 0 where
  pub asked : Query
  pub asked_read : read_query p R (at + 1) ≡ got asked (at + 3)
  pub asked_parts : QueryParts p R (at + 1) asked (at + 3)
  pub left : Stmt
  pub mid : ℕ
  pub left_read : read_stmt p P R vars (d - 1) (at + 3) ≡ got left mid
  pub right : Stmt
  pub right_read : read_stmt p P R vars (d - 1) mid ≡ got right end
  pub is : x ≡ query at asked left right

pub record UpdateParts (p : List ℕ) (P R at : ℕ) (x : Stmt) (end : ℕ) : Type 0 where
  pub inside : at + 2 ≤ length p
  pub some : 0 < byte p (at + 1)
  pub few : byte p (at + 1) ≤ list_limit
  pub mutations : List Mutation
  pub mutations_read : read_many (read_mutation p P R) (byte p (at + 1)) (at + 2) ≡ got mutations end
  pub is : x ≡ update at mutations

-- the body starts after n queries of two bytes
pub record TransactionParts (p : List ℕ) (P R vars d at : ℕ) (x : Stmt) (end : ℕ) : Type 0 where
  pub inside : at + 2 + 2 * byte p (at + 1) ≤ length p
  pub few : byte p (at + 1) ≤ list_limit
  pub listed : List Query
  pub listed_read : read_many (read_query p R) (byte p (at + 1)) (at + 2) ≡ got listed (at + 2 + 2 * byte p (at + 1))
  pub body : Stmt
  pub body_read : read_stmt p P R vars (d - 1) (at + 2 + 2 * byte p (at + 1)) ≡ got body end
  pub is : x ≡ transaction at (at + 2 + 2 * byte p (at + 1)) end listed body

-- a byte that says how many
module _ (p : List ℕ) (at : ℕ) where
  count_parts : {B : Type 0} (f : ℕ → ℕ → Read B) {y : B} {end : ℕ} → and_then (read_byte p (at + 1)) f ≡ got y end → (at + 2 ≤ length p) × (f (byte p (at + 1)) (at + 2) ≡ got y end)
  count_parts f e =
      let u = then_parts (read_byte p (at + 1)) f e in
      let b = byte_parts p (at + 1) u.first in
      let k : at + 1 + 1 ≡ at + 2 = omega arith in
      (omega arith, rw (b.1, b.2, k) at u.after)

-- a statement that stands at a position, by its code
module _ (p : List ℕ) (P R vars d at : ℕ) {x : Stmt} {end : ℕ} (h : read_stmt p P R vars d at ≡ got x end) where
  stmt_coded : (0 < d) × (at < length p) × (stmt_at p P R vars (read_stmt p P R vars (d - 1)) at (byte p at) (at + 1) ≡ got x end)
  unfolding read_stmt
  stmt_coded = go d h
    where
      go : (d : ℕ) → read_stmt p P R vars d at ≡ got x end → (0 < d) × (at < length p) × (stmt_at p P R vars (read_stmt p P R vars (d - 1)) at (byte p at) (at + 1) ≡ got x end)
      go zero h = absurd (refused_not h)
      go (suc d) h =
          let u = then_parts (read_byte p at) _ h in
          let b = byte_parts p at u.first in
          let k : suc d - 1 ≡ d = omega arith in
          (omega arith, b.0, rw k (rw (b.1, b.2) at u.after))

  pub stmt_deep : d ≡ 0 → ⊥
  stmt_deep z = let u = stmt_coded in omega arith

  pub stmt_there : at < length p
  stmt_there = stmt_coded.1

  pub skip_parts : byte p at ≡ 0 → (x ≡ skip) × (end ≡ at + 1)
  unfolding stmt_at
  skip_parts c = same_value (rw c at stmt_coded.2)

  pub assign_parts : byte p at ≡ 1 → AssignParts p vars at x end
  unfolding stmt_at assign_at
  assign_parts c =
      let u = then_parts (read_below p vars (at + 1)) _ (rw c at stmt_coded.2) in
      let b = below_parts p (at + 1) vars u.first in
      let v = then_parts (read_expr p vars expression_depth u.mid) _ u.after in
      let s = same_value v.after in
      let k : u.mid ≡ at + 2 = omega arith in
      record {
        inside = omega arith;
        fits = rw (← b.1) b.2;
        value = v.value;
        value_read = cc (k, s.1, v.first);
        is = s.0 ∙ ap (λ (y : ℕ). assign at y v.value) b.1;
      }

  pub block_parts : byte p at ≡ 2 → BlockParts p P R vars d at x end
  unfolding stmt_at block_at
  block_parts c =
      let n = count_parts p at _ (rw c at stmt_coded.2) in
      let u = then_parts (read_many (read_stmt p P R vars (d - 1)) (byte p (at + 1)) (at + 2)) _ n.1 in
      let s = same_value u.after in
      record { inside = n.0; parts = u.value; parts_read = cc (s.1, u.first); is = s.0 }

  pub if_parts : byte p at ≡ 3 → IfParts p P R vars d at x end
  unfolding stmt_at if_at
  if_parts c =
      let u = then_parts (read_expr p vars expression_depth (at + 1)) _ (rw c at stmt_coded.2) in
      let v = then_parts (read_stmt p P R vars (d - 1) u.mid) _ u.after in
      let w = then_parts (read_stmt p P R vars (d - 1) v.mid) _ v.after in
      let s = same_value w.after in
      record {
        test = u.value;
        start = u.mid;
        test_read = u.first;
        left = v.value;
        mid = v.mid;
        left_read = v.first;
        right = w.value;
        right_read = cc (s.1, w.first);
        is = s.0;
      }

  pub while_parts : byte p at ≡ 4 → WhileParts p P R vars d at x end
  unfolding stmt_at while_at
  while_parts c =
      let u = then_parts (read_expr p vars expression_depth (at + 1)) _ (rw c at stmt_coded.2) in
      let v = then_parts (read_stmt p P R vars (d - 1) u.mid) _ u.after in
      let s = same_value v.after in
      record {
        test = u.value;
        start = u.mid;
        test_read = u.first;
        body = v.value;
        body_read = cc (s.1, v.first);
        is = s.0;
      }

  pub branch_parts : byte p at ≡ 5 → BranchParts p P R vars d at x end
  unfolding stmt_at query_at
  branch_parts c =
      let u = then_parts (read_query p R (at + 1)) _ (rw c at stmt_coded.2) in
      let q = query_parts p R (at + 1) u.first in
      let k : u.mid ≡ at + 3 = omega arith in
      let v = then_parts (read_stmt p P R vars (d - 1) u.mid) _ u.after in
      let w = then_parts (read_stmt p P R vars (d - 1) v.mid) _ v.after in
      let s = same_value w.after in
      record {
        asked = u.value;
        asked_read = cc (k, u.first);
        asked_parts = rw k at q;
        left = v.value;
        mid = v.mid;
        left_read = cc (k, v.first);
        right = w.value;
        right_read = cc (s.1, w.first);
        is = s.0;
      }

  pub update_parts : byte p at ≡ 6 → UpdateParts p P R at x end
  unfolding stmt_at update_at
  update_parts c =
      let n = count_parts p at _ (rw c at stmt_coded.2) in
      let a = pick_parts (ltb 0 (byte p (at + 1))) _ _ _ n.1 in
      let b = pick_parts (leb (byte p (at + 1)) list_limit) _ _ _ a.1 in
      let u = then_parts (read_many (read_mutation p P R) (byte p (at + 1)) (at + 2)) _ b.1 in
      let s = same_value u.after in
      record {
        inside = n.0;
        some = ltb-true _ _ a.0;
        few = leb-true _ _ b.0;
        mutations = u.value;
        mutations_read = cc (s.1, u.first);
        is = s.0;
      }

  pub transaction_parts : byte p at ≡ 7 → TransactionParts p P R vars d at x end
  unfolding stmt_at transaction_at
  transaction_parts c =
      let n = count_parts p at _ (rw c at stmt_coded.2) in
      let b = pick_parts (leb (byte p (at + 1)) list_limit) _ _ _ n.1 in
      let u = then_parts (read_many (read_query p R) (byte p (at + 1)) (at + 2)) _ b.1 in
      let q = queries_end p R (byte p (at + 1)) (at + 2) u.first n.0 in
      let v = then_parts (read_stmt p P R vars (d - 1) u.mid) _ u.after in
      let s = same_value v.after in
      record {
        inside = omega arith;
        few = leb-true _ _ b.0;
        listed = u.value;
        listed_read = cc (q.0, u.first);
        body = v.value;
        body_read = cc (q.0, s.1, v.first);
        is = cc (q.0, s.0, s.1);
      }

  -- a byte that is no code gives nothing
  pub stmt_known : byte p at ≤ 7
  unfolding stmt_at
  stmt_known =
      let no : 7 < byte p at → ⊥ = λ l.
      let n = past_codes (byte p at) l in
      refused_not (simp (n 0 (omega arith), n 1 (omega arith), n 2 (omega arith), n 3 (omega arith), n 4 (omega arith), n 5 (omega arith), n 6 (omega arith), n 7 (omega arith)) at stmt_coded.2) in
      omega arith
