-- A law for each return of lines.rt, and the loop over the variables: the lines so far are written.
use Prim.Native.Nat.{ℕ, ◌+◌, ◌*◌, ◌/◌, ◌≤◌}
use native.Mathlib.Omega.{arith}
use native.Mathlib.Numerals.{add-one}
use mathlib.Core.Path.{◌≡◌, refl}
use mathlib.Core.List.{List, [], ◌∷◌, ◌++◌}
use lib.ListN.{length}
use borrow.Author.Tests.{eq-eqb, ne_eqb}
use Rattle.model.specs.Number.{accepted}
use Rattle.model.specs.Bytes.{word}
use Rattle.model.specs.Value.{value_at}
use Rattle.model.specs.Text.{decimal, signed_decimal, space, newline, numbered, answer_line, used_line, variable_line, variable_lines, rest_of, text_of}
use Rattle.report.specs.Writing.{written, write}
use Rattle.report.proofs.WritingLaws.{put_then}

module _ (out : List ℕ) (at : ℕ) (o₁ o₂ : List ℕ) (r₁ r₂ : ℕ) where
  pub with_number : (text : List ℕ) (n last : ℕ) (o₃ : List ℕ) (r₃ : ℕ) → written o₁ r₁ ≡ write out at text → written o₂ r₂ ≡ write o₁ r₁ (decimal n)
      → written o₃ r₃ ≡ write o₂ r₂ (last ∷ []) → written o₃ r₃ ≡ write out at (numbered text n last)
  unfolding numbered
  with_number text n last o₃ r₃ a b c =
      put_then out at (text ++ decimal n) (last ∷ []) o₂ o₃ r₂ r₃ (put_then out at text (decimal n) o₁ o₂ r₁ r₂ a b) c

  pub variable_line_lem : (memory : List ℕ) (x v : ℕ) (o₃ : List ℕ) (r₃ : ℕ) → written o₁ r₁ ≡ write out at (numbered (0x76 ∷ []) x space) → v ≡ word memory (4 * x) 4
      → written o₂ r₂ ≡ write o₁ r₁ (signed_decimal v) → written o₃ r₃ ≡ write o₂ r₂ (newline ∷ []) → written o₃ r₃ ≡ write out at (variable_line memory x)
  unfolding variable_line value_at
  variable_line_lem memory x v o₃ r₃ a e b c = rw (← e) (put_then out at _ (newline ∷ []) o₂ o₃ r₂ r₃ (put_then out at _ (signed_decimal v) o₁ o₂ r₁ r₂ a b) c)

  pub rest_accepted : (number units : ℕ) (memory : List ℕ) → number ≡ 0 → written o₁ r₁ ≡ write out at (numbered (0x75 ∷ 0x73 ∷ 0x65 ∷ 0x64 ∷ space ∷ []) units newline)
      → written o₂ r₂ ≡ write o₁ r₁ (variable_lines memory (length memory / 4)) → written o₂ r₂ ≡ write out at (rest_of number units memory)
  unfolding rest_of used_line
  rest_accepted number units memory e a b = rw (eq-eqb number accepted e) (put_then out at _ (variable_lines memory (length memory / 4)) o₁ o₂ r₁ r₂ a b)

  pub whole : (number units : ℕ) (memory : List ℕ) → written o₁ r₁ ≡ write out at (numbered (0x61 ∷ 0x6e ∷ 0x73 ∷ 0x77 ∷ 0x65 ∷ 0x72 ∷ space ∷ []) number newline)
      → written o₂ r₂ ≡ write o₁ r₁ (rest_of number units memory) → written o₂ r₂ ≡ write out at (text_of number units memory)
  unfolding text_of answer_line
  whole number units memory a b = put_then out at _ (rest_of number units memory) o₁ o₂ r₁ r₂ a b

module _ (out : List ℕ) (at : ℕ) (memory : List ℕ) where
  pub rest_refused : (number units : ℕ) → (number ≡ 0 → ⊥) → written out at ≡ write out at (rest_of number units memory)
  unfolding rest_of write
  rest_refused number units n = rw (ne_eqb number accepted n)

  pub variables_none : written out at ≡ write out at (variable_lines memory 0)
  unfolding write variable_lines
  variables_none = refl

  pub variables_more : (x : ℕ) (o₁ o₂ : List ℕ) (r₁ r₂ : ℕ) → written o₁ r₁ ≡ write out at (variable_lines memory x)
      → written o₂ r₂ ≡ write o₁ r₁ (variable_line memory x) → written o₂ r₂ ≡ write out at (variable_lines memory (x + 1))
  unfolding variable_lines
  variables_more x o₁ o₂ r₁ r₂ a b = rw add-one (put_then out at (variable_lines memory x) (variable_line memory x) o₁ o₂ r₁ r₂ a b)

  pub variables_end : (x : ℕ) (o : List ℕ) (r : ℕ) → x ≤ length memory / 4 → length memory / 4 ≤ x → written o r ≡ write out at (variable_lines memory x)
      → written o r ≡ write out at (variable_lines memory (length memory / 4))
  variables_end x o r l h a = let e : x ≡ length memory / 4 = omega arith in rw e at a
