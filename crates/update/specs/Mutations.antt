-- The mutations of an update that stands in a program's bytes: that the policy allows them, and what it is after them.
use Rattle.std.specs.Prelude.{◌≡◌, ℕ, ◌+◌, ◌<◌, ◌≤◌, List, true, length}
use Rattle.model.specs.Bytes.{byte}
use Rattle.model.specs.Policy.{principals, roles, SameFixed}
use Rattle.model.specs.Mutation.{operand_count, allowed, mutate, Mutation}
use Rattle.model.specs.Fits.{Each}
use Rattle.model.specs.Program.{got, read_many, read_mutation}
use Rattle.model.specs.Run.{mutate_all}
use Rattle.tracked.specs.Index.{Mirrored, Kept}

-- a mutation names a role, and a principal or role, that there are, and the policy allows it
pub record Granted (s : List ℕ) (m : Mutation) : Type 0 where
  pub role_below : m.role < roles s
  pub operand_below : m.operand < operand_count s m.kind
  pub is_allowed : allowed s m.kind m.role m.operand ≡ true

-- such a mutation stands at a position
pub record MutableOne (p s : List ℕ) (at : ℕ) : Type 0 where
  pub mutation : Mutation
  pub end : ℕ
  pub is_read : read_mutation p (principals s) (roles s) at ≡ got mutation end
  pub granted : Granted s mutation

-- such mutations are those of the update whose code stands at a position
pub record GrantedAt (p s : List ℕ) (at : ℕ) : Type 0 where
  pub mutations : List Mutation
  pub end : ℕ
  pub inside : at + 2 ≤ length p
  pub is_read : read_many (read_mutation p (principals s) (roles s)) (byte p (at + 1)) (at + 2) ≡ got mutations end
  pub granted : Each (Granted s) mutations

-- the same, shut, so that a proof by search passes it on and does not make it anew
unfoldable pub Mutable : List ℕ → List ℕ → ℕ → Type 0
Mutable p s at = GrantedAt p s at

-- t is s after the mutation that stands at a position, and the words w became u
pub record MutatedOne (p s : List ℕ) (at : ℕ) (w t u : List ℕ) : Type 0 where
  pub mirrored : Mirrored t u
  pub kept : Kept w u
  pub same_fixed : SameFixed s t
  pub made : (m : Mutation) (end : ℕ) → read_mutation p (principals s) (roles s) at ≡ got m end → t ≡ mutate s m.kind m.role m.operand

-- t is s after all mutations of the update whose code stands at a position, and the words w became u
pub record Mutated (p s : List ℕ) (at : ℕ) (w t u : List ℕ) : Type 0 where
  pub mirrored : Mirrored t u
  pub kept : Kept w u
  pub same_fixed : SameFixed s t
  pub made : (ms : List Mutation) (end : ℕ) → read_many (read_mutation p (principals s) (roles s)) (byte p (at + 1)) (at + 2) ≡ got ms end → t ≡ mutate_all s ms
