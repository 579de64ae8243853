-- Where rows stand. Of the model's laws only these look into `row_bytes`, `row_at`, `policy_bytes` and `HasRow`: a row lies inside, rows lie apart, and where they stand is by the version.
use Prim.Native.Nat.{ℕ, ◌+◌, ◌<◌, ◌≤◌}
use native.Mathlib.Omega.{arith}
use mathlib.Core.Path.{◌≡◌, refl}
use mathlib.Core.List.{List}
use lib.ListN.{length}
use Rattle.model.specs.Limits.{head_bytes, field_bytes}
use Rattle.model.specs.Policy.{version, roles, row_bytes, row_at, policy_bytes, HasRow, AcceptedHead, Accepted}
use Rattle.model.proofs.Accepted.{head_zero, accepted_head}

module _ (s : List ℕ) where
  -- a row has room for its fields
  pub fields_fit : field_bytes ≤ row_bytes s
  unfolding row_bytes
  fields_fit = omega arith

  -- a row lies inside: under an accepted head each role has its row
  pub row_inside : AcceptedHead s → (i : ℕ) → i < roles s → HasRow s i
  unfolding row_bytes row_at policy_bytes HasRow
  row_inside h i l = omega (arith, (head_zero s h).5)

  pub row_there : (i : ℕ) → HasRow s i → row_at s i + row_bytes s ≤ length s
  unfolding HasRow
  row_there i h = h

  -- and nothing lies after the last one
  pub rows_end : AcceptedHead s → (i : ℕ) → roles s ≤ i → length s ≤ row_at s i
  unfolding row_bytes row_at policy_bytes
  rows_end h i l = omega (arith, (head_zero s h).5)

  -- rows lie apart: a byte is in one row only, and none of a row's is in the head
  pub rows_apart : (i j o q : ℕ) → o < row_bytes s → q < row_bytes s → row_at s i + o ≡ row_at s j + q → (i ≡ j) × (o ≡ q)
  unfolding row_bytes row_at
  rows_apart i j o q h k e = (omega arith, omega arith)

  pub head_apart : (i : ℕ) → head_bytes ≤ row_at s i
  unfolding row_at
  head_apart i = omega arith

-- each role of an accepted policy, counted as n, has its row
pub accepted_row : (s : List ℕ) → Accepted s → (n i : ℕ) → n ≡ roles s → i < n → HasRow s i
accepted_row s ok n i e l = row_inside s (accepted_head s ok) i (rw e at l)

-- where rows stand is by the version
module _ (a b : List ℕ) (same : version a ≡ version b) where
  pub rows_same : (i : ℕ) → row_at a i ≡ row_at b i
  unfolding row_bytes row_at
  rows_same i = refl

  pub bytes_same : roles a ≡ roles b → policy_bytes a ≡ policy_bytes b
  unfolding policy_bytes
  bytes_same n = rw n (rows_same (roles b))
