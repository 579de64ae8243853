-- A law for each return of check.rt: the tests that led there say which number the definition gives.
use mathlib.Core.Path.{◌≡◌, refl, sym, ◌∙◌}
use Prim.Native.Nat.{ℕ, zero, suc, ◌+◌, ◌-◌, ◌^◌, ◌<◌, ◌≤◌}
use mathlib.Core.List.{List}
use mathlib.Core.Logic.{⊎_elim}
use mathlib.Core.Bool.{Bool, true, false, ◌&&◌, true≢false}
use native.Mathlib.Omega.{arith}
use native.Mathlib.Numerals.{add-one}
use lib.Dec.{ltb}
use lib.Bits.{bit_or}
use lib.ListN.{length}
use borrow.Author.Tests.{lt-ltb, le-ltb, le-leb, lt-leb, eq-eqb, ne_eqb, ltb-true, not-true, not-false}
use Rattle.model.specs.Limits.{head_bytes, principal_limit, role_limit}
use Rattle.model.specs.Number.{unless, first, first_below}
use Rattle.model.specs.Sets.{has, within}
use Rattle.model.specs.Policy.{has_mark, principals, roles, policy_bytes, owner, viewers, trusters, members, takes, may_take, may_hold, AcceptedHead, head_number, principal_number, owner_number, pair_number, row_number, taken_number, takes_number, grants_number, policy_number}
use Rattle.model.proofs.Number.{zero_below}
use Rattle.model.proofs.Sets.{has_zero, or_has, within_has, has_below}
use Rattle.model.proofs.Accepted.{grants_zero, zero_taken}
use Rattle.model.proofs.Taking.{may_take_trans}
use Rattle.policy.specs.Takable.{Takable}
use Rattle.policy.proofs.RowLaws.{head_inside}

-- the head: p and n are what was read of it, and l is the length that it asks for
module _ (s : List ℕ) where
  pub head_short : length s < head_bytes → 1 ≡ head_number s
  unfolding head_number
  head_short h = simp (lt-leb _ _ h)

  module _ (long : head_bytes ≤ length s) (b : Bool) (e : b ≡ has_mark s) where
    pub head_mark : b ≡ false → 2 ≡ head_number s
    unfolding head_number
    head_mark f = simp (le-leb _ _ long, sym e ∙ f)

    module _ (t : b ≡ true) (p : ℕ) (q : p ≡ principals s) where
      pub head_none : p < 1 → 3 ≡ head_number s
      unfolding head_number
      head_none h = simp (le-leb _ _ long, sym e ∙ t, lt-leb _ _ (rw q at h))

      module _ (some : 1 ≤ p) where
        pub head_principals : principal_limit < p → 3 ≡ head_number s
        unfolding head_number
        head_principals h = simp (le-leb _ _ long, sym e ∙ t, le-leb _ _ (rw q at some), lt-leb _ _ (rw q at h))

        module _ (fit : p ≤ principal_limit) (n : ℕ) (i : n ≡ roles s) where
          pub head_roles : role_limit < n → 3 ≡ head_number s
          unfolding head_number
          head_roles h = simp (le-leb _ _ long, sym e ∙ t, le-leb _ _ (rw q at some), le-leb _ _ (rw q at fit), lt-leb _ _ (rw i at h))

          module _ (few : n ≤ role_limit) (l : ℕ) (k : l ≡ policy_bytes s) where
            pub head_length : (length s ≡ l → ⊥) → 1 ≡ head_number s
            unfolding head_number
            head_length h = simp (le-leb _ _ long, sym e ∙ t, le-leb _ _ (rw q at some), le-leb _ _ (rw q at fit), le-leb _ _ (rw i at few), ne_eqb _ _ (rw k at h))

            pub head_right : length s ≡ l → 0 ≡ head_number s
            unfolding head_number
            head_right h = simp (le-leb _ _ long, sym e ∙ t, le-leb _ _ (rw q at some), le-leb _ _ (rw q at fit), le-leb _ _ (rw i at few), eq-eqb _ _ (rw k at h))

pub ruleset heads = (head_short, head_mark, head_none, head_principals, head_roles, head_length, head_right, not-true, not-false)

-- 4 of row i: c and n are P, and o, v, w, m are what was read of the row
module _ (s : List ℕ) (i c o : ℕ) (p : c ≡ principals s) (h : o ≡ owner s i) where
  pub owner_large : c ≤ o → 4 ≡ principal_number s i
  unfolding principal_number
  owner_large l = simp (le-ltb _ _ (rw (p, h) at l))

  module _ (l : o < c) (n v : ℕ) (a : Bool) (y : n ≡ c) (q : v ≡ viewers s i) (d : a ≡ ltb v (2 ^ n)) where
    small : owner s i < principals s
    small = rw (p, h) at l

    bound : n ≡ principals s
    bound = y ∙ p

    seen : ltb (viewers s i) (2 ^ principals s) ≡ a
    seen = rw (← bound, ← q) (sym d)

    pub viewers_large : a ≡ false → 4 ≡ principal_number s i
    unfolding principal_number
    viewers_large f = simp (lt-ltb _ _ small, seen ∙ f)

    module _ (t : a ≡ true) (w : ℕ) (b : Bool) (j : w ≡ trusters s i) (e : b ≡ ltb w (2 ^ n)) where
      trusted : ltb (trusters s i) (2 ^ principals s) ≡ b
      trusted = rw (← bound, ← j) (sym e)

      pub trusters_large : b ≡ false → 4 ≡ principal_number s i
      unfolding principal_number
      trusters_large f = simp (lt-ltb _ _ small, seen ∙ t, trusted ∙ f)

      module _ (u : b ≡ true) (m : ℕ) (x : Bool) (k : m ≡ members s i) (g : x ≡ ltb m (2 ^ n)) where
        held : ltb (members s i) (2 ^ principals s) ≡ x
        held = rw (← bound, ← k) (sym g)

        pub members_large : x ≡ false → 4 ≡ principal_number s i
        unfolding principal_number
        members_large f = simp (lt-ltb _ _ small, seen ∙ t, trusted ∙ u, held ∙ f)

        pub principals_right : x ≡ true → 0 ≡ principal_number s i
        unfolding principal_number
        principals_right f = simp (lt-ltb _ _ small, seen ∙ t, trusted ∙ u, held ∙ f)

pub ruleset principal_laws = (owner_large, viewers_large, trusters_large, members_large, principals_right, not-true, not-false)

-- 5 of row i: its owner o is viewer and truster
owner_holds : (s : List ℕ) (i : ℕ) → unless (may_hold s i (owner s i)) 5 0 ≡ owner_number s i
unfolding may_hold owner_number
owner_holds s i = go (has (viewers s i) (owner s i)) (has (trusters s i) (owner s i))
  where
    go : (a b : Bool) → unless (a && b) 5 0 ≡ unless a 5 (unless b 5 0)
    go true b = refl
    go false b = refl

module _ (s : List ℕ) (i o w : ℕ) (b : Bool) (p : o ≡ owner s i) (q : w ≡ o) (d : b ≡ may_hold s i w) where
  is : may_hold s i (owner s i) ≡ b
  is = rw (← p, ← q) (sym d)

  pub owner_right : b ≡ true → 0 ≡ owner_number s i
  owner_right f = rw (is ∙ f) at (owner_holds s i)

  pub owner_wrong : b ≡ false → 5 ≡ owner_number s i
  owner_wrong f = rw (is ∙ f) at (owner_holds s i)

pub ruleset owner_laws = (owner_right, owner_wrong)

-- a loop that looks for the first number that is not 0
module _ (f : ℕ → ℕ) where
  stays : (n d k : ℕ) → first_below f n ≡ k → (k ≡ 0 → ⊥) → first_below f (d + n) ≡ k
  unfolding first_below
  stays n zero k e h = let q : 0 + n ≡ n = omega arith in rw q e
  stays n (suc d) k e h = let q : suc d + n ≡ suc (d + n) = omega arith in rw (q, stays n d k e h) (simp (ne_eqb _ _ h))

  pub below_none : first_below f 0 ≡ 0
  unfolding first_below
  below_none = refl

  pub below_next : (i k : ℕ) → first_below f i ≡ 0 → k ≡ f i → k ≡ 0 → first_below f (i + 1) ≡ 0
  unfolding first_below
  below_next i k e g h = rw (add-one i, e, ← g, h)

  at_found : (i k : ℕ) → first_below f i ≡ 0 → k ≡ f i → first_below f (suc i) ≡ k
  unfolding first_below
  at_found i k e g = rw (e, ← g)

  pub below_found : (n i k : ℕ) → first_below f i ≡ 0 → i < n → k ≡ f i → (k ≡ 0 → ⊥) → k ≡ first_below f n
  below_found n i k e l g h = let q : (n - suc i) + suc i ≡ n = omega arith in sym (rw q at (stays (suc i) (n - suc i) k (at_found i k e g) h))

  pub below_done : (n i : ℕ) → first_below f i ≡ 0 → i ≤ n → n ≤ i → 0 ≡ first_below f n
  below_done n i e g h = let q : i ≡ n = omega arith in rw (← q) (sym e)

pub ruleset loops = (below_none, below_next, below_found, below_done)

-- the first number that is not 0, of two
first_is : (a b k : ℕ) → a ≡ k → (k ≡ 0 → ⊥) → k ≡ first a b
first_is a b k e h = rw e (simp (ne_eqb _ _ h))

first_not : (a b k : ℕ) → a ≡ 0 → b ≡ k → k ≡ first a b
first_not a b k e h = rw (e, h)

module _ (s : List ℕ) (i a : ℕ) (p : a ≡ principal_number s i) where
  pub row_principal : (a ≡ 0 → ⊥) → a ≡ row_number s i
  unfolding row_number
  row_principal h = first_is _ _ a (sym p) h

  module _ (z : a ≡ 0) (b : ℕ) (q : b ≡ owner_number s i) where
    pub row_owner : (b ≡ 0 → ⊥) → b ≡ row_number s i
    unfolding row_number
    row_owner h = first_not _ _ b (sym p ∙ z) (sym (first_is _ _ b (sym q) h))

    pub row_pair : b ≡ 0 → (k : ℕ) → k ≡ first_below (pair_number s i) i → k ≡ row_number s i
    unfolding row_number
    row_pair y k e = first_not _ _ k (sym p ∙ z) (sym (first_not _ _ k (sym q ∙ y) (sym e)))

pub ruleset row_laws = (row_principal, row_owner, row_pair)

-- 6 of row i
module _ (s : List ℕ) (i m v : ℕ) (a : Bool) (p : m ≡ members s i) (q : v ≡ viewers s i) (d : a ≡ within m v) where
  viewed : within (members s i) (viewers s i) ≡ a
  viewed = rw (← p, ← q) (sym d)

  pub members_hidden : a ≡ false → 6 ≡ grants_number s i
  unfolding grants_number
  members_hidden f = simp (viewed ∙ f)

  module _ (g : a ≡ true) (t : ℕ) (b : Bool) (j : t ≡ trusters s i) (e : b ≡ within m t) where
    trusting : within (members s i) (trusters s i) ≡ b
    trusting = rw (← p, ← j) (sym e)

    pub members_distrusted : b ≡ false → 6 ≡ grants_number s i
    unfolding grants_number
    members_distrusted f = simp (viewed ∙ g, trusting ∙ f)

    pub members_right : b ≡ true → (n r : ℕ) → n ≡ roles s → r ≡ takes_number s i n → r ≡ grants_number s i
    unfolding grants_number
    members_right h n r k z = simp (viewed ∙ g, trusting ∙ h) (rw k at z)

pub ruleset grants_laws = (members_hidden, members_distrusted, members_right, not-true, not-false)

-- 6 of row i: the roles that it takes, of which all may be among those takable
module _ (s : List ℕ) (i n row : ℕ) (c : Bool) (x : row ≡ takes s i) (y : c ≡ ltb row (2 ^ n)) where
  pub takes_large : c ≡ false → 6 ≡ takes_number s i n
  unfolding takes_number
  takes_large f = rw (← x) (simp (sym y ∙ f))

  pub takes_small : c ≡ true → takes s i < 2 ^ n
  takes_small f = rw (← x) (ltb-true row (2 ^ n) (sym y ∙ f))

  pub takes_each : c ≡ true → (r : ℕ) → r ≡ first_below (taken_number s i) n → r ≡ takes_number s i n
  unfolding takes_number
  takes_each f r z = rw (← x) (simp (sym y ∙ f) z)

  pub takes_takable : c ≡ true → (takable : ℕ) (b : Bool) → Takable s i takable → b ≡ within row takable → b ≡ true → 0 ≡ takes_number s i n
  unfolding Takable
  takes_takable f takable b may w h = takes_each f 0
      (sym (zero_below (taken_number s i) n (λ j l. zero_taken s i j (λ g. may j (within_has row takable j (sym w ∙ h) (rw (← x) at g))))))

pub ruleset row_takes = (takes_large, takes_small, takes_each, takes_takable, not-true, not-false)

-- what one row may take in, and the next
module _ (s : List ℕ) (i : ℕ) where
  pub takable_none : Takable s i 0
  unfolding Takable
  takable_none j h = absurd (true≢false (sym h ∙ has_zero j))

  pub takable_same : (k takable : ℕ) (b : Bool) → Takable s k takable → b ≡ may_take s i k → b ≡ true → Takable s i takable
  unfolding Takable
  takable_same k takable b may e h j g = may_take_trans s i k j (sym e ∙ h) (may j g)

  pub takable_more : (takable row k : ℕ) → Takable s i takable → row ≡ takes s i → k ≡ grants_number s i → k ≡ 0 → Takable s i (bit_or takable row)
  unfolding Takable
  takable_more takable row k may x e z j h =
      let (v, t, fits, allowed) = grants_zero s i (sym e ∙ z) in
      ⊎_elim (λ g. may j g) (λ g. let m : has (takes s i) j ≡ true = rw x at g in allowed j (has_below (roles s) (takes s i) j fits m) m) (or_has takable row j h)

pub ruleset takable_laws = (takable_none, takable_same, takable_more)

-- the whole policy
module _ (s : List ℕ) (a : ℕ) (p : a ≡ head_number s) where
  pub policy_head : (a ≡ 0 → ⊥) → a ≡ policy_number s
  unfolding policy_number
  policy_head h = first_is _ _ a (sym p) h

  module _ (z : a ≡ 0) where
    pub head_accepted : AcceptedHead s
    head_accepted = sym p ∙ z

    -- R was read as m, and is wider as n
    module _ (m n : ℕ) (d : m ≡ roles s) (f : n ≡ m) (b : ℕ) (q : b ≡ first_below (row_number s) n) where
      e : n ≡ roles s
      e = f ∙ d

      pub policy_rows : (b ≡ 0 → ⊥) → b ≡ policy_number s
      unfolding policy_number
      policy_rows h = first_not _ _ b (sym p ∙ z) (sym (first_is _ _ b (sym (rw e at q)) h))

      pub policy_grants : b ≡ 0 → (k : ℕ) → k ≡ first_below (grants_number s) n → k ≡ policy_number s
      unfolding policy_number
      policy_grants y k g = first_not _ _ k (sym p ∙ z) (sym (first_not _ _ k (sym (rw e at q) ∙ y) (sym (rw e at g))))

pub ruleset policy_laws = (policy_head, head_accepted, head_inside, policy_rows, policy_grants)
