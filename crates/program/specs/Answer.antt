-- What an answer of the code may say, and what the model's readings say in the same words.
use Rattle.std.specs.Prelude.{◌≡◌, ℕ, suc, ◌+◌, ◌*◌, ◌%◌, ◌<◌, List, Bool, true, cond, ltb, leb, length}
use Rattle.model.specs.Limits.{variable_limit, expression_depth, list_limit}
use Rattle.model.specs.Number.{program_range}
use Rattle.model.specs.Bytes.{byte}
use Rattle.model.specs.Mutation.{Mutation}
use Rattle.model.specs.Syntax.{Expr, Stmt}
use Rattle.model.specs.Program.{Read as Reading, got, bad, and_then, read_byte, read_below, read_many, read_label, read_mutation, read_expr, read_body}

-- how far reading or checking came: to a position, or to document 01's number at the place that shows it
pub data Reached : Type 0 where
  reached : (position : ℕ) → Reached
  stopped : (number place : ℕ) → Reached

-- every position in a program, and its end, is below this
abbrev pub place_limit : ℕ
place_limit = 4294967296

-- a refusal in one word: the number from bit 32 on, the place below
unfoldable pub refusal : ℕ → ℕ → ℕ
refusal number place = number * place_limit + place % place_limit

-- how far a reading of the model came; the tree is not kept
unfoldable pub end_of : {A : Type 0} → Reading A → Reached
end_of (got x next) = reached next
end_of (bad number place) = stopped number place

-- a code stands at a position, with depth left for a statement
pub record CodeAt (s : List ℕ) (depth at code : ℕ) : Type 0 where
  pub deep : depth ≡ 0 → ⊥
  pub there : at < length s
  pub is : byte s at ≡ code

-- r is true only then
unfoldable pub FindsCode : List ℕ → ℕ → ℕ → ℕ → Bool → Type 0
FindsCode s depth at code r = r ≡ true → CodeAt s depth at code

-- Parts of the model's readings that have no name there.

-- an assignment after its code: a variable, an expression
unfoldable pub read_assign : List ℕ → ℕ → ℕ → Reading Expr
read_assign s vars at = and_then (read_below s vars at) (λ x mid. read_expr s vars expression_depth mid)

-- an update after its code: n, n mutations
unfoldable pub read_update : List ℕ → ℕ → ℕ → ℕ → Reading (List Mutation)
read_update s P R at =
    and_then (read_byte s at)
    (λ n mid.
    cond (ltb 0 n) (cond (leb n list_limit) (read_many (read_mutation s P R) n mid) (bad program_range at)) (bad program_range at))

-- a program after its mark: V, V pairs of labels, the body
unfoldable pub read_variables : List ℕ → ℕ → ℕ → ℕ → Reading Stmt
read_variables s P R p =
    and_then (read_below s (suc variable_limit) p)
    (λ vars q. and_then (read_many (read_label s R) (2 * vars) q) (λ _ at. read_body s P R vars at))
