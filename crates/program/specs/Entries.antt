-- What the lists of a program hold, as the model reads it.
use Rattle.std.specs.Prelude.{◌≡◌, ℕ, ◌+◌, ◌*◌, ◌≤◌, List, Bool, true, length}
use Rattle.model.specs.Limits.{role_limit}
use Rattle.model.specs.Mutation.{Mutation as ModelMutation}
use Rattle.model.specs.Syntax.{Query as ModelQuery}
use Rattle.model.specs.Program.{Read as Reading, read_many, read_label, read_query, read_mutation}
use Rattle.program.specs.Answer.{reached, end_of}
use Rattle.program.specs.declared.entries.Entry.{Entry}
use Rattle.program.specs.declared.entries.Entry.TheVariants.{Label, Query, Mutation}

-- a label's byte has room for as many roles as there may be; how many there are matters to no other entry
abbrev pub Room : Entry → ℕ → Type 0
Room Label R = R ≤ role_limit
Room Query R = Unit {0}
Room Mutation R = Unit {0}

-- what an entry is read as: a label's byte, a query, a mutation
abbrev pub Tree : Entry → Type 0
Tree Label = ℕ
Tree Query = ModelQuery
Tree Mutation = ModelMutation

-- an entry at a position
abbrev pub read_entry : List ℕ → ℕ → ℕ → (entry : Entry) → ℕ → Reading (Tree entry)
read_entry s P R Label = read_label s R
read_entry s P R Query = read_query s R
read_entry s P R Mutation = read_mutation s P R

-- r is true only where a mutation was read at a position
unfoldable pub FindsMutation : List ℕ → ℕ → ℕ → ℕ → Bool → Type 0
FindsMutation s P R at r = r ≡ true → reached (at + 3) ≡ end_of (read_mutation s P R at)

-- n mutations were read from a position on, all within the bytes
pub record MutationsAt (s : List ℕ) (P R n at : ℕ) : Type 0 where
  pub inside : at + 3 * n ≤ length s
  pub read : reached (at + 3 * n) ≡ end_of (read_many (read_mutation s P R) n at)

-- r is true only then
unfoldable pub FindsMutations : List ℕ → ℕ → ℕ → ℕ → ℕ → Bool → Type 0
FindsMutations s P R n at r = r ≡ true → MutationsAt s P R n at
