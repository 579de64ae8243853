-- The policy file of document 01: its fields by position, the number of any bytes, the fixed part, agreement on a role.
use Rattle.std.specs.Prelude.{ℕ, ◌+◌, ◌*◌, ◌^◌, ◌<◌, ◌≤◌, ◌≡◌, List, [], ◌∷◌, Bool, true, cond, not, ◌&&◌, eqb, ltb, leb, length}
use Rattle.model.specs.Limits.{head_bytes, field_bytes, principal_limit, role_limit}
use Rattle.model.specs.Number.{accepted, policy_length, policy_mark, policy_range, row_principal, row_owner, row_grants, unless, first, first_below}
use Rattle.model.specs.Sets.{has, within}
use Rattle.model.specs.Bytes.{byte, word, starts_with}

-- the mark RXT and version 1 in 16 bits
abbrev pub policy_head : List ℕ
policy_head = 0x52 ∷ 0x58 ∷ 0x54 ∷ 1 ∷ 0 ∷ []

-- the head has the mark, and a version that there is
unfoldable pub has_mark : List ℕ → Bool
has_mark s = starts_with s policy_head

abbrev pub version : List ℕ → ℕ
version s = word s 3 2

-- P, the number of principals
abbrev pub principals : List ℕ → ℕ
principals s = byte s 5

-- R, the number of roles
abbrev pub roles : List ℕ → ℕ
roles s = byte s 6

-- how wide a row is
unfoldable pub row_bytes : List ℕ → ℕ
row_bytes s = field_bytes

-- where row i begins: the rows follow the head
unfoldable pub row_at : List ℕ → ℕ → ℕ
row_at s i = head_bytes + row_bytes s * i

-- how long the file is: it ends with its last row
unfoldable pub policy_bytes : List ℕ → ℕ
policy_bytes s = row_at s (roles s)

-- row i is there: it lies within the bytes
unfoldable pub HasRow : List ℕ → ℕ → Type 0
HasRow s i = row_at s i + row_bytes s ≤ length s

abbrev pub owner : List ℕ → ℕ → ℕ
owner s i = byte s (row_at s i)

abbrev pub name : List ℕ → ℕ → ℕ
name s i = byte s (row_at s i + 1)

unfoldable pub viewers : List ℕ → ℕ → ℕ
viewers s i = word s (row_at s i + 2) 4

unfoldable pub trusters : List ℕ → ℕ → ℕ
trusters s i = word s (row_at s i + 6) 4

unfoldable pub members : List ℕ → ℕ → ℕ
members s i = word s (row_at s i + 10) 4

unfoldable pub takes : List ℕ → ℕ → ℕ
takes s i = word s (row_at s i + 14) 8

-- the two sides of document 01: who may read, who trusts
pub data Side : Type 0 where
  reading trust : Side

-- those who see a role's row on a side: its viewers, or its trusters
unfoldable pub watchers : Side → List ℕ → ℕ → ℕ
watchers reading s i = viewers s i
watchers trust s i = trusters s i

-- a role takes in only roles with the same viewers and trusters as its own
unfoldable pub may_take : List ℕ → ℕ → ℕ → Bool
may_take s i j = eqb (viewers s i) (viewers s j) && eqb (trusters s i) (trusters s j)

-- a member is viewer and truster both
unfoldable pub may_hold : List ℕ → ℕ → ℕ → Bool
may_hold s i p = has (viewers s i) p && has (trusters s i) p

-- the head: under 7 bytes, mark or version, ranges, then the length
unfoldable pub head_number : List ℕ → ℕ
head_number s =
    unless (leb head_bytes (length s)) policy_length
    (unless (has_mark s) policy_mark
    (unless (leb 1 (principals s)) policy_range
    (unless (leb (principals s) principal_limit) policy_range
    (unless (leb (roles s) role_limit) policy_range
    (unless (eqb (length s) (policy_bytes s)) policy_length accepted)))))

-- a head that is right, the file's length with it
abbrev pub AcceptedHead : List ℕ → Type 0
AcceptedHead s = head_number s ≡ accepted

-- row i names only principals that there are
unfoldable pub principal_number : List ℕ → ℕ → ℕ
principal_number s i =
    unless (ltb (owner s i) (principals s)) row_principal
    (unless (ltb (viewers s i) (2 ^ principals s)) row_principal
    (unless (ltb (trusters s i) (2 ^ principals s)) row_principal
    (unless (ltb (members s i) (2 ^ principals s)) row_principal accepted)))

-- the owner of row i is its viewer and truster
unfoldable pub owner_number : List ℕ → ℕ → ℕ
owner_number s i =
    unless (has (viewers s i) (owner s i)) row_owner (unless (has (trusters s i) (owner s i)) row_owner accepted)

-- row j does not have the owner and name of row i
unfoldable pub pair_number : List ℕ → ℕ → ℕ → ℕ
pair_number s i j = unless (not (eqb (owner s i) (owner s j) && eqb (name s i) (name s j))) row_owner accepted

-- 4 before 5 in row i; its owner and name pair does not stand in an earlier row
unfoldable pub row_number : List ℕ → ℕ → ℕ
row_number s i = first (principal_number s i) (first (owner_number s i) (first_below (pair_number s i) i))

-- row i may take in role j, if it does
unfoldable pub taken_number : List ℕ → ℕ → ℕ → ℕ
taken_number s i j = unless (cond (has (takes s i) j) (may_take s i j) true) row_grants accepted

-- row i takes in only roles that there are, n of them, and that it may
unfoldable pub takes_number : List ℕ → ℕ → ℕ → ℕ
takes_number s i n = unless (ltb (takes s i) (2 ^ n)) row_grants (first_below (taken_number s i) n)

-- members of row i are its viewers and trusters; it takes in only roles that it may
unfoldable pub grants_number : List ℕ → ℕ → ℕ
grants_number s i =
    unless (within (members s i) (viewers s i)) row_grants
    (unless (within (members s i) (trusters s i)) row_grants (takes_number s i (roles s)))

-- the number of any bytes as a policy: the head, then 4 and 5 row by row, then 6
unfoldable pub policy_number : List ℕ → ℕ
policy_number s =
    first (head_number s)
    (first (first_below (row_number s) (roles s)) (first_below (grants_number s) (roles s)))

-- an accepted policy
abbrev pub Accepted : List ℕ → Type 0
Accepted s = policy_number s ≡ accepted

-- the fixed part is everything but members and takes; two policies have the same
pub record SameFixed (a b : List ℕ) : Type 0 where
  pub same_version : version a ≡ version b
  pub same_principals : principals a ≡ principals b
  pub same_roles : roles a ≡ roles b
  pub same_owner : (i : ℕ) → i < roles a → owner a i ≡ owner b i
  pub same_name : (i : ℕ) → i < roles a → name a i ≡ name b i
  pub same_viewers : (i : ℕ) → i < roles a → viewers a i ≡ viewers b i
  pub same_trusters : (i : ℕ) → i < roles a → trusters a i ≡ trusters b i

-- two policies agree on a role: its members and its takes are equal in both
pub record Agree (a b : List ℕ) (i : ℕ) : Type 0 where
  pub same_members : members a i ≡ members b i
  pub same_takes : takes a i ≡ takes b i
