-- A law for each return and each turn of learn.rt: rows that were passed have grown, all others are as they were.
use mathlib.Core.Path.{◌≡◌, refl, sym, ap, subst, ◌∙◌}
use Prim.Native.Nat.{ℕ, ◌+◌, ◌-◌, ◌<◌, ◌≤◌}
use mathlib.Core.List.{List, ◌∷◌, ◌++◌}
use mathlib.Core.Logic.{◌⊎◌, inl, inr, ⊎_elim}
use mathlib.Core.Bool.{Bool, true, false, cond, ◌||◌, ◌&&◌, or-false, and-true, and-false}
use native.Mathlib.Omega.{arith}
use lib.ListN.{length, set, take, drop, length-set}
use borrow.Rule.Slice.PartMut.{mid_of, post_of, put_mid, same_len_mid}
use Rattle.std.proofs.lemmas.List.{get_or_append_left, get_or-append-add, get_or-take, get_or-drop, length-take-le, length-drop}
use native.Mathlib.Numerals.{add-one}
use Rattle.model.proofs.Below.{last_or}
use lib.Seq.{get_or-set_same, get_or-set_other}
use Rattle.model.specs.Limits.{role_limit}
use Rattle.model.specs.Policy.{reading, trust, roles}
use Rattle.model.specs.Syntax.{of, everyone, Atom, role, fixed, Query}
use Rattle.model.specs.Order.{chain, at_most}
use Rattle.model.proofs.Truth.{same_truth, either, both, or_left}
use Rattle.model.proofs.Accepted.{accepted_facts}
use Rattle.model.proofs.Order.{test_derivable, derivable_test}
use Rattle.model.specs.Fits.{AtomFits}
use Rattle.program.specs.declared.codes.Atom.{Atom as CodeAtom}
use Rattle.program.specs.Codes.{model_atom}
use Rattle.order.specs.declared.table.Row.{Row}
use Rattle.order.specs.Table.{viewers_at, trusters_at, everyone_at, Table, table_rows, row_of, index_of, row_in, empty_row, holds, union, row_has, query_of, Learnt, DecidesQuery}
use Rattle.order.specs.Learn.{grown, StartGrew, Grew, AllGrew}
use Rattle.order.proofs.TableLaws.{index_is, holds_union}

module _ (a : Atom) (lower : Row) where
  -- one row
  pub grow_in : (r m : Row) (b : Bool) → b ≡ holds r a → b ≡ true → m ≡ union r lower → m ≡ grown a lower r
  grow_in r m b d h p = let e : holds r a ≡ true = sym d ∙ h in rw e p

  pub grow_out : (r : Row) (b : Bool) → b ≡ holds r a → b ≡ false → r ≡ grown a lower r
  grow_out r b d h = let e : holds r a ≡ false = sym d ∙ h in rw e refl

  -- one row after the other
  pub start_none : (t : List Row) → StartGrew a lower 0 t t
  start_none t = record { long = refl; inside = λ y k. absurd (omega arith); after = λ y k. refl }

  pub start_more : (i : ℕ) (t u : List Row) (r : Row) → StartGrew a lower i t u → i < length u → r ≡ grown a lower (row_in u i) → StartGrew a lower (i + 1) t (set u i r)
  start_more i t u r g l e = record {
    long = simp length-set g.long;
    inside = λ y k. go y (last_or i y (rw add-one at k));
    after = λ y k. get_or-set_other u i y r empty_row (λ f. omega arith) ∙ g.after y (omega arith);
  }
    where
      go : (y : ℕ) → (y ≡ i) ⊎ (y < i) → row_in (set u i r) y ≡ grown a lower (row_in t y)
      go y (inl q) = rw q (get_or-set_same u i r empty_row l ∙ e ∙ ap (grown a lower) (g.after i (omega arith)))
      go y (inr m) = get_or-set_other u i y r empty_row (λ f. omega arith) ∙ g.inside y m

  pub start_done : (i n : ℕ) (t u : List Row) → StartGrew a lower i t u → i ≤ n → n ≤ i → StartGrew a lower n t u
  start_done i n t u g h k = let e : i ≡ n = omega arith in rw e at g

  -- rows of the table
  pub grew_part : (from count k : ℕ) (t ys : List Row) → length t ≡ table_rows → from + count ≤ table_rows → k ≡ from + count - from
      → StartGrew a lower (length (mid_of from k t)) (mid_of from k t) ys → Grew a lower from count t (put_mid from k t ys)
  grew_part from count k t ys long fits e g = record {
    long = same_len_mid from k t ys g.long ∙ long;
    before = λ y l. get_or_append_left (take from t) (ys ++ post_of from k t) empty_row y (omega (arith, whole)) ∙ get_or-take from t y empty_row l;
    inside = λ y l m. subst (λ (z : ℕ). row_in (put_mid from k t ys) z ≡ grown a lower (row_in t z)) (back y l) (within (y - from) (omega arith));
    after = λ y l. subst (λ (z : ℕ). row_in (put_mid from k t ys) z ≡ row_in t z) (behind y l) (past (y - (from + count)));
  }
    where
      whole : length (take from t) ≡ from
      whole = length-take-le from t (omega arith)

      mid_long : length (mid_of from k t) ≡ k
      mid_long = length-take-le k (drop from t) (omega (arith, length-drop from t))

      back : (y : ℕ) → from ≤ y → from + (y - from) ≡ y
      back y l = omega arith

      behind : (y : ℕ) → from + count ≤ y → from + (k + (y - (from + count))) ≡ y
      behind y l = omega arith

      at : (i : ℕ) → row_in (put_mid from k t ys) (from + i) ≡ row_in (ys ++ post_of from k t) i
      at i = ap (λ (n : ℕ). row_in (put_mid from k t ys) (n + i)) (sym whole) ∙ get_or-append-add (take from t) (ys ++ post_of from k t) i empty_row

      within : (i : ℕ) → i < count → row_in (put_mid from k t ys) (from + i) ≡ grown a lower (row_in t (from + i))
      within i l =
          at i ∙ get_or_append_left ys (post_of from k t) empty_row i (omega (arith, mid_long, g.long)) ∙ g.inside i (omega (arith, mid_long))
          ∙ ap (grown a lower) (get_or-take k (drop from t) i empty_row (omega arith) ∙ get_or-drop from t i empty_row)

      past : (i : ℕ) → row_in (put_mid from k t ys) (from + (k + i)) ≡ row_in t (from + (k + i))
      past i =
          at (k + i) ∙ ap (λ (n : ℕ). row_in (ys ++ post_of from k t) (n + i)) (sym (g.long ∙ mid_long)) ∙ get_or-append-add ys (post_of from k t) i empty_row
          ∙ get_or-drop k (drop from t) i empty_row ∙ get_or-drop from t (k + i) empty_row

pub ruleset grows = (grow_in, grow_out, start_none, start_more, start_done)

-- what a grown row holds is what the model's one more query makes of it
holds_grown : (y : Atom) (l r : Row) (a : Atom) → holds (grown y l r) a ≡ holds r a || (holds l a && holds r y)
holds_grown y l r a = go (holds r y)
  where
    go : (b : Bool) → holds (cond b (union r l) r) a ≡ holds r a || (holds l a && b)
    go true = rw (and-true (holds l a)) (holds_union r l a)
    go false = rw (and-false (holds l a), or-false (holds r a))

same : {a b c a' b' c' : Bool} → a ≡ a' → b ≡ b' → c ≡ c' → (a || (b && c)) ≡ (a' || (b' && c'))
same p q r = rw (p, q, r)

-- the runs over roles, viewers, trusters and everyone
pub all_grew : (a : Atom) (lower : Row) (n : ℕ) (t t₁ t₂ t₃ u : Table) → n ≤ role_limit → Grew a lower 0 n t t₁ → Grew a lower viewers_at n t₁ t₂
    → Grew a lower trusters_at n t₂ t₃ → Grew a lower everyone_at 1 t₃ u → AllGrew a lower n t u
all_grew a lower n t t₁ t₂ t₃ u few g₁ g₂ g₃ g₄ = record { long = g₄.long; row = row }
  where
    row : (b : Atom) → AtomFits n b → row_in u (row_of b) ≡ grown a lower (row_in t (row_of b))
    row (role j) l =
        g₄.before j (omega arith) ∙ g₃.before j (omega arith) ∙ g₂.before j (omega arith) ∙ g₁.inside j (omega arith) (omega arith)
    row (fixed (of reading j)) l =
        g₄.before (viewers_at + j) (omega arith) ∙ g₃.before (viewers_at + j) (omega arith)
        ∙ g₂.inside (viewers_at + j) (omega arith) (omega arith) ∙ ap (grown a lower) (g₁.after (viewers_at + j) (omega arith))
    row (fixed (of trust j)) l =
        g₄.before (trusters_at + j) (omega arith) ∙ g₃.inside (trusters_at + j) (omega arith) (omega arith)
        ∙ ap (grown a lower) (g₂.after (trusters_at + j) (omega arith) ∙ g₁.after (trusters_at + j) (omega arith))
    row (fixed everyone) l =
        g₄.inside everyone_at (omega arith) (omega arith)
        ∙ ap (grown a lower) (g₃.after everyone_at (omega arith) ∙ g₂.after everyone_at (omega arith) ∙ g₁.after everyone_at (omega arith))

-- the first atom's row was read before any row grew; the code has the number of roles as the wider number m
module _ (n m : ℕ) (a b : CodeAtom) (t u : Table) (lower : Row) (few : n ≤ role_limit) (e : m ≡ n) (d : lower ≡ row_in t (index_of a)) (all : AllGrew (model_atom b) lower m t u) where
  pub learn_done : Learnt n t u (query_of a b)
  unfolding Learnt at_most
  learn_done s known ok r fits knows = record { long = all.long; decides = decided }
    where
      first : lower ≡ row_in t (row_of (model_atom a))
      first = d ∙ rw (index_is n a few fits.0)

      decided : (x y : Atom) → AtomFits (roles s) x → AtomFits (roles s) y → row_has u (row_of y) x ≡ at_most s (query_of a b ∷ known) x y
      decided x y hx hy =
          ap (λ (o : Row). holds o x) (all.row y (rw (r, ← e) at hy))
          ∙ holds_grown (model_atom b) lower (row_in t (row_of y)) x
          ∙ same (knows.decides x y hx hy)
          (ap (λ (o : Row). holds o x) first ∙ knows.decides x (model_atom a) hx (rw (← r) at fits.0))
          (knows.decides (model_atom b) y (rw (← r) at fits.1) hy)

-- the second atom's row holds the first atom or not
pub query_decided : (t : Table) (a b : CodeAtom) (o : Row) (r : Bool) → o ≡ row_in t (index_of b) → r ≡ holds o (model_atom a) → DecidesQuery t (query_of a b) r
unfolding DecidesQuery
query_decided t a b o r e f s known ok fits knows =
    f ∙ ap (λ (x : Row). holds x (model_atom a)) (e ∙ rw (index_is (roles s) b (accepted_facts s ok).roles_fit fits.1))
    ∙ knows.decides (model_atom a) (model_atom b) fits.0 fits.1

-- a query whose first atom is at most its second already adds nothing: what passes through it passed before
adds_nothing : (s : List ℕ) (known : List Query) (q : Query) → at_most s known q.first q.second ≡ true → (a b : Atom) → at_most s known a b ≡ at_most s (q ∷ known) a b
unfolding at_most
adds_nothing s known q h a b =
    same_truth _ _ (or_left (at_most s known a b) _)
    (λ k. ⊎_elim (λ x. x) (λ x. through (both (at_most s known a q.first) _ x)) (either (at_most s known a b) _ k))
  where
    through : (at_most s known a q.first ≡ true) × (at_most s known q.second b ≡ true) → at_most s known a b ≡ true
    through x =
        derivable_test s known a b
        (chain (test_derivable s known a q.first x.0) (chain (test_derivable s known q.first q.second h) (test_derivable s known q.second b x.1)))

-- so the table itself is the one that knows it too
pub known_learnt : (n : ℕ) (t : Table) (q : Query) (r : Bool) → DecidesQuery t q r → r ≡ true → Learnt n t t q
unfolding Learnt DecidesQuery
known_learnt n t q r f e s known ok m fits knows =
    let h : at_most s known q.first q.second ≡ true = sym (f s known ok (rw (← m) at fits) knows) ∙ e in
    record { long = knows.long; decides = λ a b ha hb. knows.decides a b ha hb ∙ adds_nothing s known q h a b }
