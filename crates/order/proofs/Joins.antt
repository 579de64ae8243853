-- How joins go as words, for callers that carry a join along: the empty join, two joins together, one label, the labels of queries.
use mathlib.Core.Path.{◌≡◌, refl, sym, ap, ◌∙◌}
use Prim.Native.Nat.{ℕ, ◌^◌, ◌<◌, ◌≤◌}
use mathlib.Core.List.Memᴰ
use mathlib.Core.List.{List, [], ◌∷◌, ◌++◌}
use mathlib.Core.Logic.{⊎_elim}
use mathlib.Core.Bool.{true, true≢false}
use native.Mathlib.Omega.{arith}
use lib.Bits.{bit_or}
use borrow.Author.Tests.{eq-eqb}
use Rattle.model.specs.Limits.{role_limit}
use Rattle.model.specs.Sets.{has}
use Rattle.model.specs.Policy.{Side}
use Rattle.model.specs.Syntax.{Fixed, of, everyone, Atom, role, fixed, Query}
use Rattle.model.specs.Fits.{Each, AtomFits, QueryFits}
use Rattle.model.specs.Flow.{atom_label, query_label, list_label}
use Rattle.model.proofs.Sets.{has_zero, has_or_l, has_or_r, or_has, has_power, power_is}
use Rattle.shared.specs.Words.{single}
use Rattle.shared.proofs.SetLaws.{single_is}
use Rattle.order.specs.Table.{Joins, JoinBelow, named_role, query_roles, list_roles}

power_has : (j i : ℕ) → i ≡ j → has (2 ^ j) i ≡ true
power_has j i e = has_power j i ∙ eq-eqb i j e

not_zero : {A : Type 0} (i : ℕ) → has 0 i ≡ true → A
not_zero i h = absurd (true≢false (sym h ∙ has_zero i))

module _ (side : Side) where
  pub joins_none : Joins side [] 0 0
  joins_none = record {
    role_in = λ i m. absurd (Memᴰ.not-nil m);
    role_out = λ i h. not_zero i h;
    fixed_in = λ side' i m. absurd (Memᴰ.not-nil m);
    fixed_out = λ i h. not_zero i h;
  }

  -- two joins together: the unions of their words
  pub joins_append : {a b : List Atom} {r r' w w' : ℕ} → Joins side a r w → Joins side b r' w' → Joins side (a ++ b) (bit_or r r') (bit_or w w')
  joins_append {a} {b} {r} {r'} {w} {w'} f g = record {
    role_in = λ i m. ⊎_elim (λ k. has_or_l r r' i (f.role_in i k)) (λ k. has_or_r r r' i (g.role_in i k)) (Memᴰ.append_cases a m);
    role_out = λ i h. ⊎_elim (λ k. Memᴰ.append_left b (f.role_out i k)) (λ k. Memᴰ.append_right a (g.role_out i k)) (or_has r r' i h);
    fixed_in = λ side' i m. ⊎_elim
        (λ k. let (e, h) = f.fixed_in side' i k in (e, has_or_l w w' i h))
        (λ k. let (e, h) = g.fixed_in side' i k in (e, has_or_r w w' i h)) (Memᴰ.append_cases a m);
    fixed_out = λ i h. ⊎_elim (λ k. Memᴰ.append_left b (f.fixed_out i k)) (λ k. Memᴰ.append_right a (g.fixed_out i k)) (or_has w w' i h);
  }

  -- one label: a role, the watchers of a role on this side, everyone, who adds nothing
  pub joins_role : (j : ℕ) → Joins side (role j ∷ []) (2 ^ j) 0
  joins_role j = record {
    role_in = λ i m. power_has j i (same (Memᴰ.eq_of_singleton m));
    role_out = λ i h. Memᴰ.head (ap role (power_is j i h));
    fixed_in = λ side' i m. absurd (never (Memᴰ.eq_of_singleton m));
    fixed_out = λ i h. not_zero i h;
  }
    where
      same : {i : ℕ} → ◌≡◌ {A = Atom} (role i) (role j) → i ≡ j
      same e = cc

      never : {f : Fixed} → ◌≡◌ {A = Atom} (fixed f) (role j) → ⊥
      never e = let z : ◌≡◌ {A = ℕ} 0 1 = cc in omega arith

  pub joins_watchers : (j : ℕ) → Joins side (fixed (of side j) ∷ []) 0 (2 ^ j)
  joins_watchers j = record {
    role_in = λ i m. absurd (never (Memᴰ.eq_of_singleton m));
    role_out = λ i h. not_zero i h;
    fixed_in = λ side' i m. (side_same (Memᴰ.eq_of_singleton m), power_has j i (same (Memᴰ.eq_of_singleton m)));
    fixed_out = λ i h. Memᴰ.head (ap (λ (k : ℕ). fixed (of side k)) (power_is j i h));
  }
    where
      same : {side' : Side} {i : ℕ} → ◌≡◌ {A = Atom} (fixed (of side' i)) (fixed (of side j)) → i ≡ j
      same e = cc

      side_same : {side' : Side} {i : ℕ} → ◌≡◌ {A = Atom} (fixed (of side' i)) (fixed (of side j)) → side' ≡ side
      side_same e = cc

      never : {i : ℕ} → ◌≡◌ {A = Atom} (role i) (fixed (of side j)) → ⊥
      never e = let z : ◌≡◌ {A = ℕ} 0 1 = cc in omega arith

  pub joins_everyone : Joins side (fixed everyone ∷ []) 0 0
  joins_everyone = record {
    role_in = λ i m. absurd (never (Memᴰ.eq_of_singleton m));
    role_out = λ i h. not_zero i h;
    fixed_in = λ side' i m. absurd (other (Memᴰ.eq_of_singleton m));
    fixed_out = λ i h. not_zero i h;
  }
    where
      never : {i : ℕ} → ◌≡◌ {A = Atom} (role i) (fixed everyone) → ⊥
      never e = let z : ◌≡◌ {A = ℕ} 0 1 = cc in omega arith

      other : {side' : Side} {i : ℕ} → ◌≡◌ {A = Atom} (fixed (of side' i)) (fixed everyone) → ⊥
      other e = let z : ◌≡◌ {A = ℕ} 0 1 = cc in omega arith

  -- the labels of an atom, of a query, of a list of queries, which fit a policy: no roles, and the watchers of the named roles
  module _ (n : ℕ) (few : n ≤ role_limit) where
    joins_named : (j : ℕ) → j < n → Joins side (fixed (of side j) ∷ []) 0 (single j)
    joins_named j l = rw (single_is j (omega arith)) (joins_watchers j)

    pub joins_atom : (a : Atom) → AtomFits n a → Joins side (atom_label side a) 0 (named_role a)
    unfolding atom_label
    joins_atom (role j) l = joins_named j l
    joins_atom (fixed (of _ j)) l = joins_named j l
    joins_atom (fixed everyone) l = joins_none

    pub joins_query : (q : Query) → QueryFits n q → Joins side (query_label side q) 0 (query_roles q)
    unfolding query_label
    joins_query q l = joins_append (joins_atom q.first l.0) (joins_atom q.second l.1)

    pub joins_list : (qs : List Query) → Each (QueryFits n) qs → Joins side (list_label side qs) 0 (list_roles qs)
    unfolding list_label list_roles
    joins_list [] l = joins_none
    joins_list (q ∷ qs) l = joins_append (joins_query q (l q (Memᴰ.head refl))) (joins_list qs (λ k m. l k (Memᴰ.tail m)))

-- the same joins hold only atoms of a policy with n roles
module _ (n : ℕ) where
  pub below_none : JoinBelow n []
  below_none a m = absurd (Memᴰ.not-nil m)

  pub below_append : {x y : List Atom} → JoinBelow n x → JoinBelow n y → JoinBelow n (x ++ y)
  below_append {x} {y} f g a m = ⊎_elim (f a) (g a) (Memᴰ.append_cases x m)

  pub below_one : (b : Atom) → AtomFits n b → JoinBelow n (b ∷ [])
  below_one b l a m = rw (Memᴰ.eq_of_singleton m) l

  module _ (side : Side) where
    pub below_atom : (a : Atom) → AtomFits n a → JoinBelow n (atom_label side a)
    unfolding atom_label
    below_atom (role j) l = below_one (fixed (of side j)) l
    below_atom (fixed (of _ j)) l = below_one (fixed (of side j)) l
    below_atom (fixed everyone) l = below_none

    pub below_query : (q : Query) → QueryFits n q → JoinBelow n (query_label side q)
    unfolding query_label
    below_query q l = below_append (below_atom q.first l.0) (below_atom q.second l.1)

    pub below_list : (qs : List Query) → Each (QueryFits n) qs → JoinBelow n (list_label side qs)
    unfolding list_label
    below_list [] f = below_none
    below_list (q ∷ qs) f = below_append (below_query q (f q (Memᴰ.head refl))) (below_list qs (λ k m. f k (Memᴰ.tail m)))
