-- A law for each return of expressions.rt: the definition goes by the code, with one less of depth for what it holds.
use Rattle.std.proofs.Common.{Result, Ok, Err}
use Rattle.std.specs.Prelude.{IsErrAnd}
use mathlib.Core.Path.{◌≡◌, refl, ◌∙◌}
use Prim.Native.Nat.{ℕ, zero, suc, ◌+◌, ◌-◌, ◌<◌, ◌≤◌}
use mathlib.Core.List.{List}
use mathlib.Core.Bool.{cond}
use native.Mathlib.Omega.{arith}
use native.Mathlib.Numerals.{sub-one}
use lib.Dec.{eqb, leb}
use lib.ListN.{length}
use borrow.Author.Tests.{le-leb, lt-leb}
use Rattle.model.specs.Number.{program_length, program_code}
use Rattle.model.specs.Bytes.{byte, word}
use Rattle.model.specs.Syntax.{Expr, constant, variable, binary}
use Rattle.model.specs.Program.{Read as Reading, got, bad, and_then, read_byte, read_below, binary_at, expr_at, read_expr}
use Rattle.program.specs.declared.codes.Operator.{Operator}
use Rattle.program.specs.declared.codes.Operator.TheVariants.{Sum, Difference, Product, Quotient, Less, Equal}
use Rattle.program.specs.declared.codes.Expression.{Expression}
use Rattle.program.specs.declared.codes.Expression.TheVariants.{Constant, Variable, Binary}
use Rattle.program.specs.Answer.{stopped, place_limit, end_of}
use Rattle.program.specs.Refused.{Answers}
use Rattle.program.specs.declared.refused.Refused.{Refused}
use Rattle.program.specs.Codes.{expression_of, model_operator}
use Rattle.program.proofs.CodeLaws.{through}
use Rattle.program.proofs.AnswerLaws.{then_last, byte_there, byte_missing}
use Rattle.program.proofs.RefusedLaws.{made, position_low, answer_at, goes_on, stops, answers_same}
use Rattle.program.specs.declared.codes.UnknownCode.{UnknownCode}

constant_at : List ℕ → ℕ → Reading Expr
constant_at s next = cond (leb (next + 4) (length s)) (got (constant (word s next 4)) (next + 4)) (bad program_length (length s))

module _ (s : List ℕ) (vars : ℕ) (sub : ℕ → Reading Expr) (at next : ℕ) where
  coded : (Result Expression UnknownCode) → Reading Expr
  coded (Ok Constant) = constant_at s next
  coded (Ok Variable) = and_then (read_below s vars next) (λ x end. got (variable x) end)
  coded (Ok (Binary o)) = binary_at sub (model_operator o) next
  coded (Err _) = bad program_code at

  by_code : (x : ℕ) → expr_at s vars sub at x next ≡ coded (expression_of x)
  unfolding expr_at expression_of coded constant_at
  by_code x =
      through coded (eqb x 0) (Ok Constant) (through coded (eqb x 1) (Ok Variable) (through coded (eqb x 2) (Ok (Binary Sum)) (through coded (eqb x 3) (Ok (Binary Difference))
      (through coded (eqb x 4) (Ok (Binary Product)) (through coded (eqb x 5) (Ok (Binary Quotient)) (through coded (eqb x 6) (Ok (Binary Less)) (through coded (eqb x 7) (Ok (Binary Equal)) refl)))))))

pub expr_deep : (s : List ℕ) (v d at : ℕ) → d ≡ 0 → stopped 14 at ≡ end_of (read_expr s v d at)
unfolding read_expr end_of
expr_deep s v d at e = rw e

step : (s : List ℕ) (v d at : ℕ) → (d ≡ 0 → ⊥) → read_expr s v d at ≡ and_then (read_byte s at) (expr_at s v (read_expr s v (d - 1)) at)
unfolding read_expr
step s v zero at f = absurd (f refl)
step s v (suc d) at f = rw sub-one

module _ (s : List ℕ) (v d at : ℕ) (f : d ≡ 0 → ⊥) where
  pub expr_missing : length s ≤ at → stopped 10 (length s) ≡ end_of (read_expr s v d at)
  expr_missing h = rw (step s v d at f) (byte_missing s at _ h)

  module _ (l : at < length s) (k : (Result Expression UnknownCode)) (e : k ≡ expression_of (byte s at)) where
    here : read_expr s v d at ≡ coded s v (read_expr s v (d - 1)) at (at + 1) k
    here = step s v d at f ∙ byte_there s at _ l ∙ by_code s v (read_expr s v (d - 1)) at (at + 1) (byte s at) ∙ rw e

    pub expr_unknown : k ≡ (Err (record {})) → stopped 12 at ≡ end_of (read_expr s v d at)
    unfolding coded end_of
    expr_unknown h = rw (here, h)

    module _ (x : Expression) (h : k ≡ Ok x) where
      pub constant_missing : x ≡ Constant → length s - (at + 1) < 4 → stopped 10 (length s) ≡ end_of (read_expr s v d at)
      unfolding coded constant_at end_of
      constant_missing g i = let j : length s < at + 1 + 4 = omega arith in rw (here, h, g) (simp (lt-leb _ _ j))

      pub constant_read : length s < place_limit → x ≡ Constant → 4 ≤ length s - (at + 1) → Answers (Ok (at + 1 + 4)) (end_of (read_expr s v d at))
      unfolding coded constant_at end_of
      constant_read short g i =
          let j : at + 1 + 4 ≤ length s = omega arith in
          answer_at (at + 1 + 4) _ (omega arith) (rw (here, h, g) (simp (le-leb _ _ j)))

      module _ (r : Result ℕ Refused) where
        pub variable_read : x ≡ Variable → Answers r (end_of (read_below s v (at + 1))) → Answers r (end_of (read_expr s v d at))
        unfolding coded
        variable_read g i = rw (here, h, g) (answers_same r (then_last (read_below s v (at + 1)) variable) i)

        module _ (o : Operator) (g : x ≡ Binary o) where
          pub binary_first : (e : Refused) → Answers (Err e) (end_of (read_expr s v (d - 1) (at + 1))) → IsErrAnd r (λ y. y ≡ e) → Answers r (end_of (read_expr s v d at))
          unfolding coded binary_at
          binary_first e i q = rw (here, h, g) (stops (read_expr s v (d - 1) (at + 1)) _ e r i q)

          pub binary_second : (a : ℕ) → Answers (Ok a) (end_of (read_expr s v (d - 1) (at + 1))) → Answers r (end_of (read_expr s v (d - 1) a)) → Answers r (end_of (read_expr s v d at))
          unfolding coded binary_at
          binary_second a i j =
              rw (here, h, g)
              (goes_on (read_expr s v (d - 1) (at + 1)) _ a r i (λ y. answers_same r (then_last (read_expr s v (d - 1) a) (binary (model_operator o) y)) j))

pub ruleset expressions = (expr_deep, expr_missing, expr_unknown, constant_missing, constant_read, variable_read, binary_first, binary_second, position_low, made)
