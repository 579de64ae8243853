-- With no query known the test is reflexive, transitive and holds every edge; one more query adds what passes through it, and that is transitive again: so the test is the least relation.
use Prim.Native.Nat.{ℕ}
use mathlib.Core.Path.{◌≡◌, refl, sym, ◌∙◌}
use mathlib.Core.Logic.{◌⊎◌, inl, inr, ⊎_elim}
use mathlib.Core.List.{List, [], ◌∷◌, Memᴰ}
use mathlib.Core.Bool.{true, false, false≢true}
use borrow.Author.Tests.{eq-eqb, eqb-true}
use Rattle.model.specs.Sets.{within}
use Rattle.model.specs.Policy.{Side, reading, trust}
use Rattle.model.specs.Syntax.{Fixed, of, Atom, role, fixed, Query}
use Rattle.model.specs.Order.{fixed_set, includes, AtMost, same, chain, asked, own, lies, base, at_most, join_at_most}
use Rattle.model.proofs.Sets.{within_has, has_within}
use Rattle.model.proofs.Truth.{either, or_left, or_right, both, and_both}

-- only which queries are known counts, not how they are listed: more known, more derived
pub known_same : {s : List ℕ} {k l : List Query} {a b : Atom} → ((q : Query) → Memᴰ q k → Memᴰ q l) → AtMost s k a b → AtMost s l a b
known_same f same = same
known_same f (chain d e) = chain (known_same f d) (known_same f e)
known_same f (asked {q = q} m) = asked (f q m)
known_same f own = own
known_same f (lies h) = lies h

-- a join is at most b when each of its atoms is
abbrev pub JoinAtMost : List ℕ → List Query → List Atom → Atom → Type 0
JoinAtMost s known join b = (a : Atom) → Memᴰ a join → AtMost s known a b

within_trans : (a b c : ℕ) → within a b ≡ true → within b c ≡ true → within a c ≡ true
within_trans a b c p q = has_within a c (λ i m. within_has b c i q (within_has a b i p m))

module _ (s : List ℕ) where
  includes_refl : (f : Fixed) → includes s f f ≡ true
  unfolding includes
  includes_refl f = has_within (fixed_set s f) (fixed_set s f) (λ i h. h)

  includes_trans : (f g h : Fixed) → includes s f g ≡ true → includes s g h ≡ true → includes s f h ≡ true
  unfolding includes
  includes_trans f g h p q = search within_trans

  -- a fixed atom is at most a role when it is at most the role's viewers or its trusters
  role_side : (f : Fixed) (j : ℕ) → base s (fixed f) (role j) ≡ true → (side : Side) × (includes s f (of side j) ≡ true)
  unfolding base
  role_side f j h = ⊎_elim (λ k. (reading, k)) (λ k. (trust, k)) (either (includes s f (of reading j)) (includes s f (of trust j)) h)

  side_role : (f : Fixed) (j : ℕ) (side : Side) → includes s f (of side j) ≡ true → base s (fixed f) (role j) ≡ true
  unfolding base
  side_role f j reading h = or_left (includes s f (of reading j)) (includes s f (of trust j)) h
  side_role f j trust h = or_right (includes s f (of reading j)) (includes s f (of trust j)) h

  base_derivable : (a b : Atom) → base s a b ≡ true → AtMost s [] a b
  unfolding base
  base_derivable (role i) (role j) h = rw (eqb-true i j h) same
  base_derivable (role i) (fixed g) h = absurd (false≢true h)
  base_derivable (fixed f) (role j) h = let (side, q) = role_side f j h in chain (lies q) own
  base_derivable (fixed f) (fixed g) h = lies h

  base_refl : (a : Atom) → base s a a ≡ true
  unfolding base
  base_refl (role i) = eq-eqb i i refl
  base_refl (fixed f) = includes_refl f

  base_trans : (a b c : Atom) → base s a b ≡ true → base s b c ≡ true → base s a c ≡ true
  unfolding base
  base_trans (role i) (role j) c h k = rw (eqb-true i j h) k
  base_trans (role i) (fixed g) c h k = absurd (false≢true h)
  base_trans (fixed f) (role j) (role l) h k = rw (← eqb-true j l k) h
  base_trans (fixed f) (role j) (fixed g) h k = absurd (false≢true k)
  base_trans (fixed f) (fixed g) (role l) h k = let (side, q) = role_side g l k in side_role f l side (includes_trans f g (of side l) h q)
  base_trans (fixed f) (fixed g) (fixed e) h k = includes_trans f g e h k

  -- the test passes
  abbrev Passes : List Query → Atom → Atom → Type 0
  Passes known a b = at_most s known a b ≡ true

  -- and once q is known too: as before, or through q
  abbrev Through : Query → List Query → Atom → Atom → Type 0
  Through q known a b = Passes known a b ⊎ (Passes known a q.first × Passes known q.second b)

  passes_through : (q : Query) (known : List Query) (a b : Atom) → Passes (q ∷ known) a b → Through q known a b
  unfolding at_most
  passes_through q known a b h =
      ⊎_elim inl (λ k. inr (both (at_most s known a q.first) (at_most s known q.second b) k)) (either (at_most s known a b) _ h)

  through_passes : (q : Query) (known : List Query) (a b : Atom) → Through q known a b → Passes (q ∷ known) a b
  unfolding at_most
  through_passes q known a b (inl h) = or_left (at_most s known a b) _ h
  through_passes q known a b (inr h) =
      or_right (at_most s known a b) _ (and_both (at_most s known a q.first) (at_most s known q.second b) h.0 h.1)

  passes_base : (known : List Query) (a b : Atom) → base s a b ≡ true → Passes known a b
  unfolding at_most
  passes_base [] a b h = h
  passes_base (q ∷ known) a b h = through_passes q known a b (inl (passes_base known a b h))

  passes_trans : (known : List Query) (a b c : Atom) → Passes known a b → Passes known b c → Passes known a c
  unfolding at_most
  passes_trans [] a b c h k = base_trans a b c h k
  passes_trans (q ∷ known) a b c h k =
      through_passes q known a c (go (passes_trans known) (passes_through q known a b h) (passes_through q known b c k))
    where
      go : ((x y z : Atom) → Passes known x y → Passes known y z → Passes known x z) → Through q known a b → Through q known b c → Through q known a c
      go trans (inl x) (inl y) = inl (trans a b c x y)
      go trans (inl x) (inr y) = inr (trans a b q.first x y.0, y.1)
      go trans (inr x) (inl y) = inr (x.0, trans q.second b c x.1 y)
      go trans (inr x) (inr y) = inr (x.0, y.1)

  passes_asked : (known : List Query) (q : Query) → Memᴰ q known → Passes known q.first q.second
  passes_asked [] q x' = elim x' [ ]
  passes_asked (k ∷ known) q (Memᴰ.head e) =
      rw e (through_passes k known k.first k.second (inr (passes_base known _ _ (base_refl k.first), passes_base known _ _ (base_refl k.second))))
  passes_asked (k ∷ known) q (Memᴰ.tail m) = through_passes k known q.first q.second (inl (passes_asked known q m))

  pub test_derivable : (known : List Query) (a b : Atom) → at_most s known a b ≡ true → AtMost s known a b
  unfolding at_most
  test_derivable [] a b h = base_derivable a b h
  test_derivable (q ∷ known) a b h = go (test_derivable known) (passes_through q known a b h)
    where
      wider : {x y : Atom} → AtMost s known x y → AtMost s (q ∷ known) x y
      wider d = known_same (λ k m. Memᴰ.tail m) d

      go : ((x y : Atom) → Passes known x y → AtMost s known x y) → Through q known a b → AtMost s (q ∷ known) a b
      go derive (inl x) = wider (derive a b x)
      go derive (inr x) = chain (wider (derive a q.first x.0)) (chain (asked (Memᴰ.head refl)) (wider (derive q.second b x.1)))

  pub derivable_test : (known : List Query) (a b : Atom) → AtMost s known a b → at_most s known a b ≡ true
  unfolding base
  derivable_test known a b same = passes_base known a a (base_refl a)
  derivable_test known a c (chain {b = b} d e) = passes_trans known a b c (derivable_test known a b d) (derivable_test known b c e)
  derivable_test known a b (asked {q = q} m) = passes_asked known q m
  derivable_test known a b (own {side = side} {j = j}) = passes_base known _ _ (side_role (of side j) j side (includes_refl (of side j)))
  derivable_test known a b (lies {f = f} {g = g} h) = passes_base known (fixed f) (fixed g) h

  pub denied : (known : List Query) (a b : Atom) → at_most s known a b ≡ false → AtMost s known a b → ⊥
  denied known a b h d = false≢true (sym h ∙ derivable_test known a b d)

  pub join_derivable : (known : List Query) (join : List Atom) (b : Atom) → join_at_most s known join b ≡ true → JoinAtMost s known join b
  unfolding join_at_most
  join_derivable known [] b h a x' = elim x' [ ]
  join_derivable known (c ∷ join) b h a (Memᴰ.head e) = rw e (test_derivable known c b (both (at_most s known c b) _ h).0)
  join_derivable known (c ∷ join) b h a (Memᴰ.tail m) = join_derivable known join b (both (at_most s known c b) _ h).1 a m

  pub derivable_join : (known : List Query) (join : List Atom) (b : Atom) → JoinAtMost s known join b → join_at_most s known join b ≡ true
  unfolding join_at_most
  derivable_join known [] b h = refl
  derivable_join known (c ∷ join) b h =
      and_both (at_most s known c b) _ (derivable_test known c b (h c (Memᴰ.head refl))) (derivable_join known join b (λ a m. h a (Memᴰ.tail m)))
