-- One mutation of a row, and when the policy file allows it.
use Rattle.std.specs.Prelude.{ℕ, ◌+◌, List, Bool, true}
use Rattle.model.specs.Sets.{with, without}
use Rattle.model.specs.Bytes.{put}
use Rattle.model.specs.Policy.{principals, roles, row_at, members, takes, may_hold, may_take}

-- 00 add and 01 delete a member, 02 add and 03 delete a taken role
pub data Kind : Type 0 where
  addMember deleteMember addTaken deleteTaken : Kind

-- the operand names a principal or a role that there is
abbrev pub operand_count : List ℕ → Kind → ℕ
operand_count s addMember = principals s
operand_count s deleteMember = principals s
operand_count s addTaken = roles s
operand_count s deleteTaken = roles s

-- the policy file allows what is added; a deletion is always allowed
unfoldable pub allowed : List ℕ → Kind → ℕ → ℕ → Bool
allowed s addMember r x = may_hold s r x
allowed s deleteMember r x = true
allowed s addTaken r x = may_take s r x
allowed s deleteTaken r x = true

-- the bytes with row r's members, or its takes, replaced
unfoldable pub put_members : List ℕ → ℕ → ℕ → List ℕ
put_members s r v = put s (row_at s r + 10) 4 v

unfoldable pub put_takes : List ℕ → ℕ → ℕ → List ℕ
put_takes s r v = put s (row_at s r + 14) 8 v

-- the policy after one mutation of row r
unfoldable pub mutate : List ℕ → Kind → ℕ → ℕ → List ℕ
mutate s addMember r x = put_members s r (with (members s r) x)
mutate s deleteMember r x = put_members s r (without (members s r) x)
mutate s addTaken r x = put_takes s r (with (takes s r) x)
mutate s deleteTaken r x = put_takes s r (without (takes s r) x)

-- one mutation as a program file has it
pub record Mutation : Type 0 where
  pub kind : Kind
  pub role : ℕ
  pub operand : ℕ
