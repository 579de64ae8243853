-- What acceptance of a policy says, fact by fact: the number is 0 exactly when the head is right and each row is.
use Prim.Native.Nat.{ℕ, ◌^◌, ◌<◌, ◌≤◌}
use mathlib.Core.Path.{◌≡◌, refl}
use mathlib.Core.List.{List}
use mathlib.Core.Bool.{Bool, true, false, cond, not, ◌&&◌}
use lib.ListN.{length}
use native.Mathlib.Omega.{arith}
use lib.Dec.{leb, ltb, eqb}
use borrow.Author.Tests.{ltb-true, leb-true, eqb-true, lt-ltb, le-leb, eq-eqb}
use Rattle.model.specs.Limits.{head_bytes, principal_limit, role_limit}
use Rattle.model.specs.Number.{first_below}
use Rattle.model.specs.Sets.{has, within}
use Rattle.model.specs.Policy.{has_mark, principals, roles, policy_bytes, owner, name, viewers, trusters, members, takes, may_take, AcceptedHead, Accepted, policy_number, head_number, principal_number, owner_number, pair_number, row_number, taken_number, takes_number, grants_number}
use Rattle.model.proofs.Number.{unless_zero, first_zero, zero_first, below_zero, zero_below}

-- what holds of row i of an accepted policy
pub record RowFacts (s : List ℕ) (i : ℕ) : Type 0 where
  pub owner_below : owner s i < principals s
  pub viewers_below : viewers s i < 2 ^ principals s
  pub trusters_below : trusters s i < 2 ^ principals s
  pub members_below : members s i < 2 ^ principals s
  pub owner_views : has (viewers s i) (owner s i) ≡ true
  pub owner_trusts : has (trusters s i) (owner s i) ≡ true
  pub pair_new : (j : ℕ) → j < i → owner s i ≡ owner s j → name s i ≡ name s j → ⊥
  pub members_view : within (members s i) (viewers s i) ≡ true
  pub members_trust : within (members s i) (trusters s i) ≡ true
  pub takes_below : takes s i < 2 ^ roles s
  pub takes_allowed : (j : ℕ) → j < roles s → has (takes s i) j ≡ true → may_take s i j ≡ true

-- what holds of an accepted policy
pub record Facts (s : List ℕ) : Type 0 where
  pub headed : head_bytes ≤ length s
  pub marked : has_mark s ≡ true
  pub principals_some : 1 ≤ principals s
  pub principals_fit : principals s ≤ principal_limit
  pub roles_fit : roles s ≤ role_limit
  pub long : length s ≡ policy_bytes s
  pub row : (i : ℕ) → i < roles s → RowFacts s i

-- the head's checks, one by one
pub head_zero : (s : List ℕ) → AcceptedHead s
    → (head_bytes ≤ length s) × (has_mark s ≡ true) × (1 ≤ principals s) × (principals s ≤ principal_limit) × (roles s ≤ role_limit) × (length s ≡ policy_bytes s)
unfolding head_number
head_zero s h =
    let a = unless_zero (leb head_bytes (length s)) _ _ h in
    let b = unless_zero (has_mark s) _ _ a.1 in
    let c = unless_zero (leb 1 (principals s)) _ _ b.1 in
    let d = unless_zero (leb (principals s) principal_limit) _ _ c.1 in
    let e = unless_zero (leb (roles s) role_limit) _ _ d.1 in
    let l = unless_zero (eqb (length s) (policy_bytes s)) _ _ e.1 in
    (leb-true _ _ a.0, b.0, leb-true _ _ c.0, leb-true _ _ d.0, leb-true _ _ e.0, eqb-true _ _ l.0)

-- row j does not have the owner and name of row i
pair_zero : (s : List ℕ) (i j : ℕ) → pair_number s i j ≡ 0 → owner s i ≡ owner s j → name s i ≡ name s j → ⊥
unfolding pair_number
pair_zero s i j h o n = let z = rw (eq-eqb _ _ o, eq-eqb _ _ n) at h in omega arith

taken_zero : (s : List ℕ) (i j : ℕ) → taken_number s i j ≡ 0 → has (takes s i) j ≡ true → may_take s i j ≡ true
unfolding taken_number
taken_zero s i j h t = (unless_zero (may_take s i j) _ _ (rw t at h)).0

-- the checks of what a row grants, one by one
pub grants_zero : (s : List ℕ) (i : ℕ) → grants_number s i ≡ 0
    → (within (members s i) (viewers s i) ≡ true) × (within (members s i) (trusters s i) ≡ true) × (takes s i < 2 ^ roles s)
    × ((j : ℕ) → j < roles s → has (takes s i) j ≡ true → may_take s i j ≡ true)
unfolding takes_number grants_number
grants_zero s i g =
    let mv = unless_zero (within (members s i) (viewers s i)) _ _ g in
    let mt = unless_zero (within (members s i) (trusters s i)) _ _ mv.1 in
    let k = unless_zero (ltb (takes s i) (2 ^ roles s)) _ _ mt.1 in
    (mv.0, mt.0, ltb-true _ _ k.0, λ j l. taken_zero s i j (below_zero (taken_number s i) (roles s) k.1 j l))

-- a row's checks, one by one
row_facts : (s : List ℕ) (i : ℕ) → row_number s i ≡ 0 → grants_number s i ≡ 0 → RowFacts s i
unfolding row_number principal_number owner_number
row_facts s i h g =
    let a = first_zero (principal_number s i) _ h in
    let b = first_zero (owner_number s i) _ a.1 in
    let o = unless_zero (ltb (owner s i) (principals s)) _ _ a.0 in
    let v = unless_zero (ltb (viewers s i) (2 ^ principals s)) _ _ o.1 in
    let t = unless_zero (ltb (trusters s i) (2 ^ principals s)) _ _ v.1 in
    let m = unless_zero (ltb (members s i) (2 ^ principals s)) _ _ t.1 in
    let ov = unless_zero (has (viewers s i) (owner s i)) _ _ b.0 in
    let ot = unless_zero (has (trusters s i) (owner s i)) _ _ ov.1 in
    let (mv, mt, fit, allowed) = grants_zero s i g in
    record {
      owner_below = ltb-true _ _ o.0;
      viewers_below = ltb-true _ _ v.0;
      trusters_below = ltb-true _ _ t.0;
      members_below = ltb-true _ _ m.0;
      owner_views = ov.0;
      owner_trusts = ot.0;
      pair_new = λ j l. pair_zero s i j (below_zero (pair_number s i) i b.1 j l);
      members_view = mv;
      members_trust = mt;
      takes_below = fit;
      takes_allowed = allowed;
    }

pub accepted_head : (s : List ℕ) → Accepted s → AcceptedHead s
unfolding policy_number
accepted_head s h = (first_zero (head_number s) _ h).0

pub accepted_facts : (s : List ℕ) → Accepted s → Facts s
unfolding policy_number
accepted_facts s h =
    let a = first_zero (head_number s) _ h in
    let b = first_zero (first_below (row_number s) (roles s)) _ a.1 in
    let (headed, marked, some, fit, few, len) = head_zero s a.0 in
    record {
      headed = headed;
      marked = marked;
      principals_some = some;
      principals_fit = fit;
      roles_fit = few;
      long = len;
      row = λ i l. row_facts s i (below_zero (row_number s) (roles s) b.0 i l) (below_zero (grants_number s) (roles s) b.1 i l);
    }

zero_head : (s : List ℕ) → Facts s → AcceptedHead s
unfolding head_number
zero_head s f = search (le-leb, eq-eqb, f.marked)

pub zero_pair : (s : List ℕ) (i j : ℕ) → (owner s i ≡ owner s j → name s i ≡ name s j → ⊥) → pair_number s i j ≡ 0
unfolding pair_number
zero_pair s i j h = rw (not_both _ _ (λ a b. h (eqb-true _ _ a) (eqb-true _ _ b)))
  where
    not_both : (a b : Bool) → (a ≡ true → b ≡ true → ⊥) → not (a && b) ≡ true
    not_both true true k = absurd (k refl refl)
    not_both true false k = refl
    not_both false b k = refl

pub zero_taken : (s : List ℕ) (i j : ℕ) → (has (takes s i) j ≡ true → may_take s i j ≡ true) → taken_number s i j ≡ 0
unfolding taken_number
zero_taken s i j h = rw (implies _ _ h)
  where
    implies : (a b : Bool) → (a ≡ true → b ≡ true) → cond a b true ≡ true
    implies true b k = k refl
    implies false b k = refl

zero_row : (s : List ℕ) (i : ℕ) → RowFacts s i → row_number s i ≡ 0
unfolding row_number principal_number owner_number
zero_row s i f =
    let pairs = zero_below (pair_number s i) i (λ j l. zero_pair s i j (f.pair_new j l)) in
    search (lt-ltb, f.owner_views, f.owner_trusts, pairs)

zero_grants : (s : List ℕ) (i : ℕ) → RowFacts s i → grants_number s i ≡ 0
unfolding takes_number grants_number
zero_grants s i f =
    let taken = zero_below (taken_number s i) (roles s) (λ j l. zero_taken s i j (f.takes_allowed j l)) in
    search (lt-ltb, f.members_view, f.members_trust, taken)

pub facts_accepted : (s : List ℕ) → Facts s → Accepted s
unfolding policy_number
facts_accepted s f =
    zero_first (head_number s) _ (zero_head s f)
    (zero_first _ _ (zero_below (row_number s) (roles s) (λ i l. zero_row s i (f.row i l)))
    (zero_below (grants_number s) (roles s) (λ i l. zero_grants s i (f.row i l))))
