-- A law for each return of positions.rt, and what a position ahead is where a tree was read.
use Rattle.std.proofs.Common.{Result, Ok, Err}
use Rattle.std.specs.Result.{result_eq}
use mathlib.Core.Path.{◌≡◌, refl, sym, ap, ◌∙◌}
use Prim.Native.Nat.{ℕ, ◌+◌, ◌-◌, ◌*◌, ◌^◌, ◌<◌, ◌≤◌, min}
use mathlib.Core.List.{List}
use mathlib.Core.Bool.{Bool, cond}
use native.Mathlib.Omega.{arith}
use native.Mathlib.Nat.{mul-le-mul}
use mir.Val.{Fits}
use mir.Syntax.{w64}
use lib.Dec.{eqb}
use lib.ListN.{length}
use borrow.Author.Tests.{le-leb, ne_eqb}
use Rattle.model.specs.Bytes.{byte}
use Rattle.model.specs.Mutation.{Kind as ModelKind, addMember, deleteMember, addTaken, deleteTaken, Mutation}
use Rattle.model.specs.Program.{got, read_mutation}
use Rattle.gathered.specs.Positions.{ahead, after_list, ExprEnds}
use Rattle.model.proofs.Standing.{kind_code, mutation_parts, operator_code, expr_deep, expr_there, expr_known, constant_parts, variable_parts, binary_parts}
use Rattle.program.specs.declared.codes.Operator.{Operator}
use Rattle.program.specs.declared.codes.Operator.TheVariants.{Sum, Difference, Product, Quotient, Less, Equal}
use Rattle.program.specs.declared.codes.Expression.{Expression}
use Rattle.program.specs.declared.codes.Expression.TheVariants.{Constant, Variable, Binary}
use Rattle.program.specs.declared.codes.Kind.{Kind}
use Rattle.program.specs.declared.codes.Kind.TheVariants.{AddMember, DeleteMember, AddTaken, DeleteTaken}
use Rattle.program.specs.Codes.{statement_of, statement_byte, kind_of, kind_byte, model_kind, expression_of, operator_byte, expression_byte, model_operator}
use Rattle.program.proofs.CodeLaws.{kind_byte_lem, kind_none, statement_byte_lem, statement_none, expression_byte_lem, expression_none}
use Rattle.program.specs.declared.codes.Statement.{Statement}
use Rattle.program.specs.declared.codes.Statement.TheVariants.{Skip}
use Rattle.program.specs.declared.codes.UnknownCode.{UnknownCode}

-- a position ahead
module _ (p : List ℕ) (at n : ℕ) where
  pub ahead_clamped : (s r : ℕ) → s ≡ min (at + n) 18446744073709551615 → r ≡ min s (length p) → length p < 2 ^ 64 → r ≡ ahead p at n
  unfolding ahead
  ahead_clamped s r e f h = grind (arith, e, f, h)

  pub ahead_is : at + n ≤ length p → ahead p at n ≡ at + n
  unfolding ahead
  ahead_is l = simp (le-leb _ _ l)

pub ruleset aheads = (ahead_clamped)

-- a list's count is a byte, so its size fits
list_size : (size n : ℕ) → size ≤ 3 → n < 256 → size * n ≤ 765
list_size size n h g = let l : n ≤ 255 = omega arith in mul-le-mul h l

pub list_fits : (size n : ℕ) → size ≤ 3 → n < 256 → Fits w64 (size * n)
list_fits size n h g = record { fits = omega (arith, list_size size n h g) }

pub list_far : (size n : ℕ) → size ≤ 3 → n < 256 → Fits w64 (2 + size * n)
list_far size n h g = record { fits = omega (arith, list_size size n h g) }

pub list_after : (p : List ℕ) (at size q b n r : ℕ) → q ≡ ahead p at 1 → b ≡ byte p q → n ≡ b → r ≡ ahead p at (2 + size * n) → r ≡ after_list p at size
unfolding after_list
list_after p at size q b n r e f g h = rw (← e, ← f, ← g) h

pub ruleset lists = (list_fits, list_far, list_after)

pub list_is : (p : List ℕ) (at size : ℕ) → at + 2 + size * byte p (at + 1) ≤ length p → after_list p at size ≡ at + 2 + size * byte p (at + 1)
unfolding after_list
list_is p at size l =
    let k : at + (2 + size * byte p (at + 1)) ≡ at + 2 + size * byte p (at + 1) = omega arith in
    rw (ahead_is p at 1 (omega arith), ahead_is p at (2 + size * byte p (at + 1)) (omega arith)) k

-- whether a byte's code is a skip
pub is_skip_of : (E : Statement → Statement → Bool) (U : UnknownCode → UnknownCode → Bool) → ((c : Statement) → E c Skip ≡ eqb (statement_byte c) 0)
    → (b : ℕ) (o : (Result Statement UnknownCode)) → o ≡ statement_of b → result_eq E U o (Ok Skip) ≡ eqb b 0
is_skip_of E U f b (Ok c) h = rw (f c, statement_byte_lem b (Ok c) h c refl)
is_skip_of E U f b (Err _) h = let n : b ≡ 0 → ⊥ = λ e. omega (arith, statement_none b (Err (record {})) h refl) in rw (ne_eqb b 0 n)

-- an operator's code is the one that reading knows it by
pub operator_code_lem : (op : Operator) → operator_byte op ≡ operator_code (model_operator op)
operator_code_lem Sum = refl
operator_code_lem Difference = refl
operator_code_lem Product = refl
operator_code_lem Quotient = refl
operator_code_lem Less = refl
operator_code_lem Equal = refl

-- the end of an expression, by its code
module _ (p : List ℕ) (d at : ℕ) where
  pub expr_none : (r : ℕ) → d ≡ 0 → ExprEnds p d at r
  unfolding ExprEnds
  expr_none r z vars e end h = absurd (expr_deep p vars d at h z)

  module _ (o : (Result Expression UnknownCode)) (i : o ≡ expression_of (byte p at)) where
    pub expr_unknown : (r : ℕ) → o ≡ (Err (record {})) → ExprEnds p d at r
    unfolding ExprEnds
    expr_unknown r k vars e end h = absurd (omega (arith, expression_none (byte p at) o i k, expr_known p vars d at h))

    module _ (c : Expression) (j : o ≡ Ok c) where
      pub expr_constant : (r : ℕ) → c ≡ Constant → r ≡ ahead p at 5 → ExprEnds p d at r
      unfolding ExprEnds
      expr_constant r k q vars e end h =
          let u = constant_parts p vars d at h (expression_byte_lem (byte p at) o i c j ∙ ap expression_byte k) in
          q ∙ ahead_is p at 5 u.inside ∙ sym u.ends

      pub expr_variable : (r : ℕ) → c ≡ Variable → r ≡ ahead p at 2 → ExprEnds p d at r
      unfolding ExprEnds
      expr_variable r k q vars e end h =
          let u = variable_parts p vars d at h (expression_byte_lem (byte p at) o i c j ∙ ap expression_byte k) in
          q ∙ ahead_is p at 2 u.inside ∙ sym u.ends

      pub expr_binary : (op : Operator) (n mid r : ℕ) → c ≡ Binary op → n ≡ ahead p at 1 → ExprEnds p (d - 1) n mid → ExprEnds p (d - 1) mid r → ExprEnds p d at r
      unfolding ExprEnds
      expr_binary op n mid r k q f g vars e end h =
          let u = binary_parts p vars d at h (model_operator op) (expression_byte_lem (byte p at) o i c j ∙ ap expression_byte k ∙ operator_code_lem op) in
          let m : n ≡ at + 1 = q ∙ ahead_is p at 1 (omega (arith, expr_there p vars d at h)) in
          g vars u.right end (rw (f vars u.left u.mid (rw m u.left_read)) u.right_read)

pub ruleset ends = (expr_none, expr_unknown, expr_constant, expr_variable, expr_binary)

-- the kind of a mutation that was read is the one whose code stands there
abbrev kind_at : ℕ → ModelKind
kind_at n = cond (eqb n 0) addMember (cond (eqb n 1) deleteMember (cond (eqb n 2) addTaken deleteTaken))

kind_at_lem : (kind : ModelKind) → kind_at (kind_code kind) ≡ kind
kind_at_lem addMember = refl
kind_at_lem deleteMember = refl
kind_at_lem addTaken = refl
kind_at_lem deleteTaken = refl

code_kind : (k : Kind) → kind_at (kind_byte k) ≡ model_kind k
code_kind AddMember = refl
code_kind DeleteMember = refl
code_kind AddTaken = refl
code_kind DeleteTaken = refl

code_known : (kind : ModelKind) → kind_code kind ≤ 3
code_known addMember = omega arith
code_known deleteMember = omega arith
code_known addTaken = omega arith
code_known deleteTaken = omega arith

module _ (p : List ℕ) (P R at : ℕ) {m : Mutation} {end : ℕ} (e : read_mutation p P R at ≡ got m end) (o : (Result Kind UnknownCode)) (d : o ≡ kind_of (byte p at)) where
  pub mutation_known : o ≡ (Err (record {})) → ⊥
  mutation_known h = omega (arith, kind_none (byte p at) o d h, (mutation_parts p P R at e).kind_byte_lem, code_known m.kind)

  pub mutation_kind : (k : Kind) → o ≡ Ok k → m.kind ≡ model_kind k
  mutation_kind k h = sym (kind_at_lem m.kind) ∙ ap kind_at ((mutation_parts p P R at e).kind_byte_lem ∙ kind_byte_lem (byte p at) o d k h) ∙ code_kind k
