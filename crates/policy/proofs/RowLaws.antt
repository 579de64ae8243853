-- A field of a row is the word at its place; what a row allows follows from its viewers and trusters.
use mathlib.Core.Path.{◌≡◌, refl, sym, ◌∙◌}
use Prim.Native.Nat.{ℕ, ◌+◌, ◌*◌, ◌<◌, ◌≤◌}
use native.Mathlib.Omega.{arith}
use mathlib.Core.List.{List}
use mathlib.Core.Bool.{Bool, true, false}
use lib.Dec.{eqb}
use lib.ListN.{length}
use borrow.Author.Tests.{eq-eqb, ne_eqb}
use Rattle.model.specs.Limits.{head_bytes, field_bytes, principal_limit}
use Rattle.model.specs.Sets.{has}
use Rattle.model.specs.Bytes.{byte, word, put, starts_with}
use Rattle.model.specs.Policy.{policy_head, has_mark, principals, roles, row_bytes, row_at, policy_bytes, HasRow, owner, name, viewers, trusters, members, takes, may_take, may_hold, AcceptedHead}
use Rattle.model.specs.Mutation.{put_members, put_takes}
use Rattle.model.proofs.Accepted.{head_zero}
use Rattle.model.proofs.Rows.{row_inside, row_there, head_apart}

-- a right head is there, and so are all rows
module _ (s : List ℕ) (h : AcceptedHead s) where
  pub head_inside : head_bytes ≤ length s
  head_inside = (head_zero s h).0

  pub principals_few : principals s ≤ principal_limit
  principals_few = (head_zero s h).3

  pub row_of_lem : (n i : ℕ) → n ≡ roles s → i < n → HasRow s i
  row_of_lem n i e l = row_inside s h i (rw e at l)

  pub row_before : (n i j : ℕ) → n ≡ roles s → i < n → j ≤ i → HasRow s j
  row_before n i j e l k = row_of_lem n j e (omega arith)

pub row_head : (s : List ℕ) (i : ℕ) → HasRow s i → head_bytes ≤ length s
row_head s i h = omega (arith, row_there s i h, head_apart s i)

pub ruleset insides = (head_inside, row_of_lem, row_before, row_head)

-- where row i begins, as rows.rt works it out
module _ (s : List ℕ) (i : ℕ) (h : HasRow s i) where
  pub row_fits : head_bytes + field_bytes * i + field_bytes ≤ length s
  unfolding row_bytes row_at HasRow
  row_fits = h

  pub row_begins : head_bytes + field_bytes * i ≡ row_at s i
  unfolding row_bytes row_at
  row_begins = refl

-- the mark
pub mark_is : (s : List ℕ) (b : Bool) → b ≡ starts_with s policy_head → b ≡ has_mark s
unfolding has_mark
mark_is s b e = e

-- how long a policy must be
pub bytes_are : (s : List ℕ) (n r : ℕ) → n ≡ roles s → r ≡ n → head_bytes + field_bytes * r ≡ policy_bytes s
unfolding row_bytes row_at policy_bytes
bytes_are s n r e f = rw (f, e)

-- each field by its place
module _ (s : List ℕ) (i at : ℕ) (e : at ≡ row_at s i) where
  pub owner_at : byte s at ≡ owner s i
  owner_at = rw e

  pub name_at : byte s (at + 1) ≡ name s i
  name_at = rw e

  module _ (r : ℕ) where
    pub viewers_at : r ≡ word s (at + 2) 4 → r ≡ viewers s i
    unfolding viewers
    viewers_at h = rw e at h

    pub trusters_at : r ≡ word s (at + 6) 4 → r ≡ trusters s i
    unfolding trusters
    trusters_at h = rw e at h

    pub members_at : r ≡ word s (at + 10) 4 → r ≡ members s i
    unfolding members
    members_at h = rw e at h

    pub takes_at : r ≡ word s (at + 14) 8 → r ≡ takes s i
    unfolding takes
    takes_at h = rw e at h

  -- and what is written there
  module _ (v : ℕ) (t : List ℕ) where
    pub members_put : t ≡ put s (at + 10) 4 v → t ≡ put_members s i v
    unfolding put_members
    members_put h = rw e at h

    pub takes_put : t ≡ put s (at + 14) 8 v → t ≡ put_takes s i v
    unfolding put_takes
    takes_put h = rw e at h

pub ruleset writes = (members_put, takes_put)

pub ruleset fields = (owner_at, name_at, viewers_at, trusters_at, members_at, takes_at)

-- whether row i may take in role j; v, w and t, u are the viewers and trusters of both rows
module _ (s : List ℕ) (i j v w : ℕ) (q : v ≡ viewers s i) (e : w ≡ viewers s j) where
  pub viewers_differ : (v ≡ w → ⊥) → false ≡ may_take s i j
  unfolding may_take
  viewers_differ h = let k : viewers s i ≡ viewers s j → ⊥ = λ x. h (q ∙ x ∙ sym e) in simp (ne_eqb _ _ k)

  pub trusters_decide : v ≡ w → (t u : ℕ) → t ≡ trusters s i → u ≡ trusters s j → eqb t u ≡ may_take s i j
  unfolding may_take
  trusters_decide h t u x y = rw (x, y) (simp (eq-eqb _ _ (sym q ∙ h ∙ e)))

pub ruleset take_laws = (viewers_differ, trusters_decide)

-- whether row i may have principal x as a member: its viewers decide, and then its trusters
module _ (s : List ℕ) (i x : ℕ) where
  pub no_viewer : has (viewers s i) x ≡ false → false ≡ may_hold s i x
  unfolding may_hold
  no_viewer f = simp f

  pub truster_decides : has (viewers s i) x ≡ true → (b : Bool) → b ≡ has (trusters s i) x → b ≡ may_hold s i x
  unfolding may_hold
  truster_decides f b e = simp f e

pub ruleset hold_laws = (no_viewer, truster_decides)
