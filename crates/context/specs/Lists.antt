-- What the walks over a transaction's list and an update's mutations say of the lists that were read there.
use Rattle.std.specs.Prelude.{ℕ, ◌%◌, ◌<◌, ◌≡◌, List, Bool, cond, ltb, Result, Ok}
use Rattle.shared.specs.Words.{single}
use Rattle.model.specs.Policy.{Accepted, principals, roles, may_hold, may_take}
use Rattle.model.specs.Mutation.{Mutation, allowed}
use Rattle.model.specs.Syntax.{Query as ModelQuery, same_query}
use Rattle.model.specs.Program.{got, read_many, read_query, read_mutation}
use Rattle.model.specs.Flow.{listed_in, all_allowed}
use Rattle.program.specs.declared.codes.UnknownCode.{UnknownCode}
use Rattle.order.specs.Table.{Table, query_of, query_roles, list_roles, DecidesQuery}
use Rattle.context.specs.declared.lists.Query.{Query}

-- r says whether the query that stands at a position is the one that stands at another
unfoldable pub SameAt : List ℕ → ℕ → ℕ → Bool → Type 0
SameAt p at other r =
    (R : ℕ) (k q : ModelQuery) (end after : ℕ) → read_query p R at ≡ got k end → read_query p R other ≡ got q after → r ≡ same_query q k

-- r says whether the query that stands at a position is among the n queries that stand at another
unfoldable pub ListedAt : List ℕ → ℕ → ℕ → ℕ → Bool → Type 0
ListedAt p n at other r =
    (R : ℕ) (qs : List ModelQuery) (q : ModelQuery) (end after : ℕ) → read_many (read_query p R) n at ≡ got qs end → read_query p R other ≡ got q after
    → r ≡ listed_in q qs

-- what the code read is the model's query
pub record QueryNames (o : Result Query UnknownCode) (q : ModelQuery) : Type 0 where
  pub named : Query
  pub is : o ≡ Ok named
  pub stands : query_of named.first named.second ≡ q

-- o is the query that stands at a position
unfoldable pub QueryAt : List ℕ → ℕ → Result Query UnknownCode → Type 0
QueryAt p at o = (R : ℕ) (q : ModelQuery) (end : ℕ) → read_query p R at ≡ got q end → QueryNames o q

-- r says whether the table t knows the query that stands at a position already
unfoldable pub KnownAt : List ℕ → Table → ℕ → Bool → Type 0
KnownAt p t at r = (R : ℕ) (q : ModelQuery) (end : ℕ) → read_query p R at ≡ got q end → DecidesQuery t q r

-- the role that the byte of an atom names, as a set
unfoldable pub byte_roles : ℕ → ℕ
byte_roles x = cond (ltb x 0xc0) (single (x % 64)) 0

-- r is the set of the roles named in the query that stands at a position
unfoldable pub QueryRolesAt : List ℕ → ℕ → ℕ → Type 0
QueryRolesAt p at r = (R : ℕ) (q : ModelQuery) (end : ℕ) → read_query p R at ≡ got q end → r ≡ query_roles q

-- r is the set of the roles named in the n queries that stand at a position
unfoldable pub ListRolesAt : List ℕ → ℕ → ℕ → ℕ → Type 0
ListRolesAt p n at r =
    (R : ℕ) (qs : List ModelQuery) (end : ℕ) → read_many (read_query p R) n at ≡ got qs end → r ≡ list_roles qs

-- r says whether the policy file s lets role i hold the principal x, and whether it lets role i take in role j
unfoldable pub HoldsRight : List ℕ → ℕ → ℕ → Bool → Type 0
HoldsRight s i x r = i < roles s → r ≡ may_hold s i x

unfoldable pub TakesRight : List ℕ → ℕ → ℕ → Bool → Type 0
TakesRight s i j r = i < roles s → j < roles s → r ≡ may_take s i j

-- r says whether the policy file s allows the mutation that stands at a position
unfoldable pub OneAllowedAt : List ℕ → List ℕ → ℕ → Bool → Type 0
OneAllowedAt s p at r =
    (m : Mutation) (end : ℕ) → read_mutation p (principals s) (roles s) at ≡ got m end
    → r ≡ allowed s m.kind m.role m.operand

-- r says whether the policy file s allows each of the n mutations that stand at a position
unfoldable pub AllowedAt : List ℕ → List ℕ → ℕ → ℕ → Bool → Type 0
AllowedAt s p n at r =
    (ms : List Mutation) (end : ℕ) → Accepted s → read_many (read_mutation p (principals s) (roles s)) n at ≡ got ms end
    → r ≡ all_allowed s ms
