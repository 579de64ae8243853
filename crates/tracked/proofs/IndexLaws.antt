-- A law for each return of index.rt that makes the words, or what is known of roles, and for the loops. Those that keep and
-- compare the words have their laws in KeepLaws and SiftLaws.
use mathlib.Core.Path.{◌≡◌, refl, sym, ap, ◌∙◌}
use Prim.Native.Nat.{ℕ, ◌+◌, ◌-◌, ◌*◌, ◌%◌, ◌^◌, ◌<◌, ◌≤◌}
use mathlib.Core.Logic.{◌⊎◌, inl, inr, ⊎_elim}
use mathlib.Core.List.{List}
use mathlib.Core.Bool.{Bool, true, false}
use native.Mathlib.Omega.{arith}
use native.Mathlib.Decide.{ℕ_discrete}
use native.Mathlib.Nat.{lt_of_le_of_lt}
use mir.Val.{Fits}
use mir.Syntax.{w32, w64}
use lib.Bits.{bit_or}
use lib.Count.{count_trailing_zeros}
use lib.ListN.{length, get_or, set, replicate, length-set, length-replicate, get_or-replicate}
use lib.Seq.{get_or-set_same, get_or-set_other}
use Rattle.model.specs.Limits.{principal_limit, role_limit}
use Rattle.model.specs.Sets.{has, with, without}
use Rattle.model.specs.Policy.{roles, principals, members, takes, HasRow, Accepted}
use Rattle.model.proofs.Accepted.{accepted_facts}
use Rattle.model.proofs.Below.{last_or}
use Rattle.model.proofs.Rows.{accepted_row}
use Rattle.model.proofs.Sets.{has_zero, not_in, in_not, in_none, has_or_l, has_or_r, or_has, same_sets, has_below, power_is, power_in, has_with_same, has_with, with_has, with_below, has_without, without_has, without_le}
use Rattle.model.proofs.Truth.{true_or_false}
use Rattle.shared.specs.Words.{single}
use Rattle.shared.proofs.SetLaws.{shifted, single_is, held_power, next_without, fewer}
use Rattle.tracked.specs.Index.{holders_at, moved_at, known_at, above_at, rewired_at, index_words, current, SetInside, Entered, Transposed, Loaded, placed, Turned, Upward, Reaching, Known, Learnt}

-- i is put into the words of `set` that are not in `rest`
pub record Entering (from set rest i : ℕ) (w u : List ℕ) : Type 0 where
  pub long : length u ≡ length w
  pub in_rest : (j : ℕ) → has rest j ≡ true → has set j ≡ true
  pub entered : (j : ℕ) → has set j ≡ true → has rest j ≡ false → get_or u (from + j) 0 ≡ with (get_or w (from + j) 0) i
  pub waiting : (j : ℕ) → has rest j ≡ true → get_or u (from + j) 0 ≡ get_or w (from + j) 0
  pub others : (k : ℕ) → ((j : ℕ) → has set j ≡ true → k ≡ from + j → ⊥) → get_or u k 0 ≡ get_or w k 0

pub entering_start : (from set i : ℕ) (w : List ℕ) → Entering from set set i w w
entering_start from set i w =
    record { long = refl; in_rest = λ j h. h; entered = λ j h n. in_not set j h n; waiting = λ j h. refl; others = λ k n. refl }

module _ (from all rest i : ℕ) (w u : List ℕ) (inside : SetInside from all) (long : length w ≡ index_words) (h : Entering from all rest i w u) where
  pub entering_inside : (j : ℕ) → j < 64 → has rest j ≡ true → from + j < index_words
  unfolding SetInside
  entering_inside j b m = omega (arith, inside j b (h.in_rest j m))

  entering_there : (j : ℕ) → j < 64 → has rest j ≡ true → from + j < length u
  entering_there j b m = omega (arith, h.long, long, entering_inside j b m)

  pub entering_fits : (j : ℕ) → j < 64 → has rest j ≡ true → Fits w64 (from + j)
  unfolding SetInside
  entering_fits j b m = record { fits = omega (arith, inside j b (h.in_rest j m)) }

  pub entering_wide : (j : ℕ) → j < 64 → has rest j ≡ true → Fits w64 ((from + j) * 8)
  unfolding SetInside
  entering_wide j b m = record { fits = omega (arith, inside j b (h.in_rest j m)) }

  pub entering_more : (j k v next : ℕ) → j ≡ count_trailing_zeros 64 rest → j < 64 → has rest j ≡ true → k ≡ from + j → v ≡ with (get_or u k 0) i → next ≡ without rest (count_trailing_zeros 64 rest) → Entering from all next i w (set u k v)
  entering_more j k v next ej b m ek ev en = rw (ev, ek) (record {
    long = length-set u (from + j) _ ∙ h.long;
    in_rest = λ l p. h.in_rest l (out l p).0;
    entered = λ l p n. go l p n (ℕ_discrete l j);
    waiting = λ l p. get_or-set_other u (from + j) (from + l) _ 0 (λ e. (out l p).1 (omega arith)) ∙ h.waiting l (out l p).0;
    others = λ l n. get_or-set_other u (from + j) l _ 0 (λ e. n j (h.in_rest j m) e) ∙ h.others l n;
  })
    where
      is : next ≡ without rest j
      is = next_without rest j next ej en

      out : (l : ℕ) → has next l ≡ true → (has rest l ≡ true) × (l ≡ j → ⊥)
      out l p = without_has rest j l (rw is at p)

      go : (l : ℕ) → has all l ≡ true → has next l ≡ false → Dec (l ≡ j) → get_or (set u (from + j) (with (get_or u (from + j) 0) i)) (from + l) 0 ≡ with (get_or w (from + l) 0) i
      go l p n (yes e) = rw e (get_or-set_same u (from + j) _ 0 (entering_there j b m) ∙ ap (λ (x : ℕ). with x i) (h.waiting j m))
      go l p n (no d) =
          get_or-set_other u (from + j) (from + l) _ 0 (λ e. d (omega arith))
          ∙ h.entered l p (not_in rest l (λ q. in_not next l (rw is (has_without rest j l q d)) n))

  pub entering_done : rest ≤ 0 → Entered from all i w u
  entering_done z =
      let e : rest ≡ 0 = omega arith in
      record { long = h.long; entered = λ j p. h.entered j p (rw e (has_zero j)); others = h.others }

  pub entering_long : length u ≡ length w
  entering_long = h.long

pub ruleset enterings = (fewer, entering_start, entering_inside, entering_fits, entering_wide, entering_more, entering_done, entering_long)

-- a set with or without a number
module _ (a i : ℕ) where
  pub placed_same : (b : Bool) → has (placed b a i) i ≡ b
  unfolding placed
  placed_same true = has_with_same a i
  placed_same false = not_in (without a i) i (λ h. (without_has a i i h).1 refl)

  pub placed_other : (b : Bool) (j : ℕ) → (j ≡ i → ⊥) → has (placed b a i) j ≡ has a j
  unfolding placed
  placed_other b j n = ⊎_elim (λ y. stays b y ∙ sym y) (λ f. leaves b f ∙ sym f) (true_or_false (has a j))
    where
      stays : (b : Bool) → has a j ≡ true → has (placed b a i) j ≡ true
      stays true y = has_with a i j y
      stays false y = has_without a i j y n

      leaves : (b : Bool) → has a j ≡ false → has (placed b a i) j ≡ false
      leaves true f = not_in (with a i) j (λ h. ⊎_elim n (λ y. in_not a j y f) (with_has a i j h))
      leaves false f = not_in (without a i) j (λ h. in_not a j (without_has a i j h).0 f)

-- the words of one more role
module _ (f : ℕ → ℕ) (from width n : ℕ) (w u : List ℕ) (h : Transposed f from width n w) where
  transposed_more : Entered from (f n) n w u → Transposed f from width (n + 1) u
  unfolding placed
  transposed_more g = record { same = λ j i l b. same j i l (true_or_false (has (f n) j)) (last_or n i (omega arith)); below = λ j i l m. below j i l m (true_or_false (has (f n) j)) (ℕ_discrete i n) }
    where
      kept : (j : ℕ) → has (f n) j ≡ false → get_or u (from + j) 0 ≡ get_or w (from + j) 0
      kept j e = g.others (from + j) (λ l m q. let k : l ≡ j = omega arith in in_not (f n) j (rw k at m) e)

      same : (j i : ℕ) → j < width → (has (f n) j ≡ true) ⊎ (has (f n) j ≡ false) → (i ≡ n) ⊎ (i < n) → has (get_or u (from + j) 0) i ≡ has (f i) j
      same j i l (inl y) (inl e) = rw (e, g.entered j y) (placed_same (get_or w (from + j) 0) n true ∙ sym y)
      same j i l (inl y) (inr b) = rw (g.entered j y) (placed_other (get_or w (from + j) 0) n true i (λ q. omega arith) ∙ h.same j i l b)
      same j i l (inr o) (inl e) = rw (e, kept j o) (not_in (get_or w (from + j) 0) n (λ q. let k = h.below j n l q in omega arith) ∙ sym o)
      same j i l (inr o) (inr b) = rw (kept j o) (h.same j i l b)

      below : (j i : ℕ) → j < width → has (get_or u (from + j) 0) i ≡ true → (has (f n) j ≡ true) ⊎ (has (f n) j ≡ false) → Dec (i ≡ n) → i < n + 1
      below j i l m o (yes e) = omega arith
      below j i l m (inl y) (no d) = let k = h.below j i l (sym (placed_other (get_or w (from + j) 0) n true i d) ∙ rw (g.entered j y) at m) in omega arith
      below j i l m (inr o) (no d) = let k = h.below j i l (rw (kept j o) at m) in omega arith

  -- other words may change
  pub transposed_kept : (g : ℕ → ℕ) → ((i j : ℕ) → i < n → has (g i) j ≡ has (f i) j) → ((j : ℕ) → j < width → get_or u (from + j) 0 ≡ get_or w (from + j) 0) → Transposed g from width n u
  transposed_kept g alike kept = record { same = λ j i l b. rw (kept j l) (h.same j i l b ∙ sym (alike i j b)); below = λ j i l m. h.below j i l (rw (kept j l) at m) }

  -- the word of x changes in r, and so does the set of r in x
  pub transposed_turned : (g : ℕ → ℕ) (r x : ℕ) (present : Bool) → r < n → x < width → from + width ≤ moved_at → ((i : ℕ) → i < n → (i ≡ r → ⊥) → g i ≡ f i) → g r ≡ placed present (f r) x
      → Turned (from + x) r present w u → Transposed g from width n u
  transposed_turned g r x present r-there x-there inside others own z =
      record { same = λ j i l b. same j i l b (ℕ_discrete j x) (ℕ_discrete i r); below = λ j i l m. below j i l m (ℕ_discrete j x) (ℕ_discrete i r) }
    where
      old : ℕ
      old = get_or w (from + x) 0

      kept : (j : ℕ) → j < width → (j ≡ x → ⊥) → get_or u (from + j) 0 ≡ get_or w (from + j) 0
      kept j l d = z.others (from + j) (omega arith) (λ q. d (omega arith))

      same : (j i : ℕ) → j < width → i < n → Dec (j ≡ x) → Dec (i ≡ r) → has (get_or u (from + j) 0) i ≡ has (g i) j
      same j i l b (yes e) (yes q) = rw (e, q, z.word, own) (placed_same (get_or w (from + x) 0) r present ∙ sym (placed_same (f r) x present))
      same j i l b (yes e) (no d) = rw (e, z.word, others i b d) (placed_other (get_or w (from + x) 0) r present i d ∙ h.same x i x-there b)
      same j i l b (no d) (yes q) = rw (q, kept j l d, own) (h.same j r l r-there ∙ sym (placed_other (f r) x present j d))
      same j i l b (no d) (no c) = rw (kept j l d, others i b c) (h.same j i l b)

      below : (j i : ℕ) → j < width → has (get_or u (from + j) 0) i ≡ true → Dec (j ≡ x) → Dec (i ≡ r) → i < n
      below j i l m d (yes q) = rw q r-there
      below j i l m (yes e) (no c) = h.below x i x-there (sym (placed_other (get_or w (from + x) 0) r present i c) ∙ rw (e, z.word) at m)
      below j i l m (no d) (no c) = h.below j i l (rw (kept j l d) at m)

-- how many roles there are: b as it is read, c the same, wider
pub count_is : (s : List ℕ) (b c : ℕ) → c ≡ b → b ≡ roles s → c ≡ roles s
count_is s b c e f = e ∙ f

-- a row of an accepted policy
module _ (s : List ℕ) (ok : Accepted s) (c i : ℕ) (e : c ≡ roles s) (l : i < c) where
  i_there : i < roles s
  i_there = omega arith

  pub row_there : HasRow s i
  row_there = accepted_row s ok (roles s) i refl i_there

  taken_small : (j : ℕ) → has (takes s i) j ≡ true → j < role_limit
  taken_small j m = omega (arith, has_below (roles s) (takes s i) j ((accepted_facts s ok).row i i_there).takes_below m, (accepted_facts s ok).roles_fit)

  member_small : (j : ℕ) → has (members s i) j ≡ true → j < principal_limit
  member_small j m = omega (arith, has_below (principals s) (members s i) j ((accepted_facts s ok).row i i_there).members_below m, (accepted_facts s ok).principals_fit)

  pub takes_inside : (v : ℕ) → v ≡ takes s i → SetInside 0 v
  unfolding SetInside
  takes_inside v q j b m = omega (arith, taken_small j (rw q at m))

  pub members_inside : (w v : ℕ) → w ≡ v → v ≡ members s i → SetInside holders_at w
  unfolding SetInside
  members_inside w v e q j b m = omega (arith, member_small j (rw (e, q) at m))

  pub role_small : i < role_limit
  role_small = omega (arith, (accepted_facts s ok).roles_fit)

module _ (s w : List ℕ) (ok : Accepted s) where
  pub loaded_start : w ≡ replicate index_words 0 → Loaded s 0 w
  loaded_start e = record {
    indexed = record {
      long = ap length e ∙ length-replicate {A = ℕ} index_words 0;
      takers = none (takes s) 0 role_limit (omega arith);
      holders = none (members s) holders_at principal_limit (omega arith);
    };
    untouched = record { none_moved = zero_at moved_at (omega arith); none_rewired = zero_at rewired_at (omega arith) };
    none_known = zero_at known_at (omega arith);
  }
    where
      zero_at : (k : ℕ) → k < index_words → get_or w k 0 ≡ 0
      zero_at k l = rw e (get_or-replicate index_words k 0 0 l)

      none : (f : ℕ → ℕ) (from width : ℕ) → from + width < index_words → Transposed f from width 0 w
      none f from width l = record {
        same = λ j i b m. absurd (omega arith);
        below = λ j i b m. in_none i (rw (zero_at (from + j) (omega arith)) at m);
      }

  module _ (n : ℕ) (h : Loaded s n w) where
    pub loaded_long : length w ≡ index_words
    loaded_long = h.indexed.long

    pub loaded_more : (u v : List ℕ) (c t m x : ℕ) → c ≡ roles s → n < c → t ≡ takes s n → m ≡ x → x ≡ members s n → Entered 0 t n w u → Entered holders_at m n u v → Loaded s (n + 1) v
    loaded_more u v c t m x ec l et ex em a b = record {
      indexed = record {
        long = g.long ∙ f.long ∙ h.indexed.long;
        takers = transposed_kept (takes s) 0 role_limit (n + 1) u v (transposed_more (takes s) 0 role_limit n w u h.indexed.takers f) (takes s) (λ i j k. refl)
            (λ j k. g.others (0 + j) (λ x p q. omega arith));
        holders = transposed_more (members s) holders_at principal_limit n u v
            (transposed_kept (members s) holders_at principal_limit n w u h.indexed.holders (members s) (λ i j k. refl) (λ j k. f.others (holders_at + j) (λ y p q. omega (arith, taken_small s ok c n ec l y p)))) g;
      };
      untouched = record { none_moved = behind moved_at (omega arith) ∙ h.untouched.none_moved; none_rewired = behind rewired_at (omega arith) ∙ h.untouched.none_rewired };
      none_known = behind known_at (omega arith) ∙ h.none_known;
    }
      where
        f : Entered 0 (takes s n) n w u
        f = rw et at a

        g : Entered holders_at (members s n) n u v
        g = rw (ex, em) at b

        behind : (k : ℕ) → moved_at ≤ k → get_or v k 0 ≡ get_or w k 0
        behind k b = g.others k (λ y p q. omega (arith, member_small s ok c n ec l y p)) ∙ f.others k (λ y p q. omega (arith, taken_small s ok c n ec l y p))

    pub loaded_done : (c : ℕ) → c ≡ roles s → n ≤ c → c ≤ n → Loaded s (roles s) w
    loaded_done c e l k = let q : roles s ≡ n = omega arith in rw q h

pub ruleset loadings = (count_is, row_there, takes_inside, members_inside, role_small, loaded_start, loaded_long, loaded_more, loaded_done)

-- a set without a number, by putting it in first
module _ (old p : ℕ) where
  pub placed_both : (here : Bool) → here ≡ true → bit_or old (2 ^ p) ≡ placed here old p
  unfolding placed
  placed_both here h = rw h refl

  pub placed_off : (here : Bool) → here ≡ false → bit_or old (2 ^ p) - 2 ^ p ≡ placed here old p
  unfolding placed
  placed_off here h = rw h (both ∙ same_sets (without (with old p) p) (without old p) out back)
    where
      both : with old p - 2 ^ p ≡ without (with old p) p
      both = simp (has_with_same old p)

      out : (j : ℕ) → has (without (with old p) p) j ≡ true → has (without old p) j ≡ true
      out j m = let (a, n) = without_has (with old p) p j m in ⊎_elim (λ q. absurd (n q)) (λ y. has_without old p j y n) (with_has old p j a)

      back : (j : ℕ) → has (without old p) j ≡ true → has (without (with old p) p) j ≡ true
      back j m = let (a, n) = without_has old p j m in has_without (with old p) p j (has_with old p j a) n

  pub power_below : 2 ^ p ≤ bit_or old (2 ^ p)
  power_below = held_power (with old p) p (has_with_same old p)

-- a principal's number is one of 32, so a set of principals stays one
pub placed_fits : (m x v : ℕ) (present : Bool) → m < 2 ^ 32 → x < principal_limit → v ≡ placed present m x → Fits w32 v
unfolding placed
placed_fits m x v true below l e = record { fits = rw e (with_below 32 m x below l) }
placed_fits m x v false below l e = record { fits = rw e (lt_of_le_of_lt (without_le m x) below) }

-- the same in a word of 64 bits
module _ (here : Bool) (old p : ℕ) (l : p < role_limit) where
  pub shifted_below : 1 * 2 ^ p % 2 ^ 64 ≤ bit_or old (1 * 2 ^ p % 2 ^ 64)
  shifted_below = rw (shifted p l) (power_below old p)

  pub shifted_both : here ≡ true → bit_or old (1 * 2 ^ p % 2 ^ 64) ≡ placed here old p
  shifted_both h = rw (shifted p l) (placed_both old p here h)

  pub shifted_off : here ≡ false → bit_or old (1 * 2 ^ p % 2 ^ 64) - 1 * 2 ^ p % 2 ^ 64 ≡ placed here old p
  shifted_off h = rw (shifted p l) (placed_off old p here h)

pub ruleset placings = (shifted_below, shifted_both, shifted_off)

-- what is reached upwards depends on the words of those that take in only
reaching_kept : (f g : ℕ → ℕ) (start r : ℕ) → ((j : ℕ) → j < role_limit → g j ≡ f j) → Reaching f start r → Reaching g start r
reaching_kept f g start r e h = record {
  starts = h.starts;
  upward = record {
    closed = λ j i l p m. h.upward.closed j i l p (rw (e j l) at m);
    least = λ H a b i p. h.upward.least H a (λ j k l q m. b j k l q (rw (e j l) m)) i p;
  };
}

-- what is known stays so where these words are the same
pub known_kept : (f g : ℕ → ℕ) (w u : List ℕ) (old new : ℕ) → Known f w old → ((j : ℕ) → has new j ≡ true → (has old j ≡ true) × ((k : ℕ) → k < role_limit → g k ≡ f k))
    → ((j : ℕ) → j < role_limit → get_or u (above_at + j) 0 ≡ get_or w (above_at + j) 0) → Known g u new
unfolding Known
known_kept f g w u old new h same a j l m = let (b, c) = same j m in rw (a j l) (reaching_kept f g _ _ c (h j l b))

pub none_known : (f : ℕ → ℕ) (w : List ℕ) → get_or w known_at 0 ≡ 0 → Known f w (get_or w known_at 0)
unfolding Known
none_known f w e j l m = in_none j (rw e at m)

-- the word of one more role
module _ (w : List ℕ) (j above : ℕ) (long : length w ≡ index_words) (l : j < role_limit) where
  pub noted_inside : known_at < length (set w (above_at + j) above)
  noted_inside = rw length-set (omega arith)

  pub learnt_noted : Known (current w) w (get_or w known_at 0) → Reaching (current w) (single j) above → (x v : ℕ) → x ≡ get_or (set w (above_at + j) above) known_at 0 → v ≡ with x j
      → Learnt w (set (set w (above_at + j) above) known_at v)
  unfolding Known
  learnt_noted known r x v ex ev = record { long = length-set mid known_at v ∙ length-set w (above_at + j) above; same = same; behind = behind; known = λ i b m. go i b m (ℕ_discrete i j) }
    where
      mid : List ℕ
      mid = set w (above_at + j) above

      u : List ℕ
      u = set mid known_at v

      same : (k : ℕ) → k < known_at → get_or u k 0 ≡ get_or w k 0
      same k b = get_or-set_other mid known_at k v 0 (λ q. omega arith) ∙ get_or-set_other w (above_at + j) k above 0 (λ q. omega arith)

      behind : (k : ℕ) → rewired_at ≤ k → get_or u k 0 ≡ get_or w k 0
      behind k b = get_or-set_other mid known_at k v 0 (λ q. omega arith) ∙ get_or-set_other w (above_at + j) k above 0 (λ q. omega arith)

      kept : (start a : ℕ) → Reaching (current w) start a → Reaching (current u) start a
      kept start a = reaching_kept (current w) (current u) start a (λ k b. same k (omega arith))

      is : get_or u known_at 0 ≡ with (get_or w known_at 0) j
      is = get_or-set_same mid known_at v 0 noted_inside ∙ ev ∙ ap (λ (y : ℕ). with y j) (ex ∙ get_or-set_other w (above_at + j) known_at above 0 (λ q. omega arith))

      go : (i : ℕ) → i < role_limit → has (get_or u known_at 0) i ≡ true → Dec (i ≡ j) → Reaching (current u) (single i) (get_or u (above_at + i) 0)
      go i b m (yes e) = rw (e, get_or-set_other mid known_at (above_at + j) v 0 (λ q. omega arith), get_or-set_same w (above_at + j) above 0 (omega arith)) (kept (single j) above r)
      go i b m (no d) =
          rw (get_or-set_other mid known_at (above_at + i) v 0 (λ q. omega arith), get_or-set_other w (above_at + j) (above_at + i) above 0 (λ q. d (omega arith)))
          (kept (single i) (get_or w (above_at + i) 0) (known i b (⊎_elim (λ e. absurd (d e)) (λ h. h) (with_has (get_or w known_at 0) j i (rw is at m)))))

pub ruleset notings = (noted_inside, learnt_noted)

-- the words of the roles in `start` that are not in `rest` are put together
pub record Gathering (f : ℕ → ℕ) (start rest seen : ℕ) : Type 0 where
  pub in_rest : (i : ℕ) → has rest i ≡ true → has start i ≡ true
  pub starts : (i : ℕ) → has start i ≡ true → has rest i ≡ false → has seen i ≡ true
  pub upward : Upward f start seen

pub none_upward : (f : ℕ → ℕ) (start : ℕ) → Upward f start 0
none_upward f start = record { closed = λ j i l h m. in_none j h; least = λ H f g i h. in_none i h }

pub gathering_start : (f : ℕ → ℕ) (start : ℕ) → Gathering f start start 0
gathering_start f start = record { in_rest = λ i h. h; starts = λ i h n. in_not start i h n; upward = none_upward f start }

-- what one of some leads to they all do
pub one_upward : (f : ℕ → ℕ) (start j one : ℕ) → j < role_limit → has start j ≡ true → Reaching f (single j) one → Upward f start one
one_upward f start j one l m h = record {
  closed = h.upward.closed;
  least = λ H a b. h.upward.least H (λ i p. let e = power_is j i (rw (single_is j l) at p) in rw e (a j m)) b;
}

module _ (f : ℕ → ℕ) (w : List ℕ) (start rest seen : ℕ) (h : Gathering f start rest seen) where
  pub gathering_more : (j next : ℕ) → Known f w start → j ≡ count_trailing_zeros 64 rest → has rest j ≡ true → j < role_limit → next ≡ without rest (count_trailing_zeros 64 rest)
      → Gathering f start next (bit_or seen (get_or w (above_at + j) 0))
  unfolding Known
  gathering_more j next known ej m l en = record {
    in_rest = λ i p. h.in_rest i (without_has rest j i (rw is at p)).0;
    starts = λ i p n. go i p n (ℕ_discrete i j);
    upward = record {
      closed = λ k i b p q. ⊎_elim
          (λ y. has_or_l seen word i (h.upward.closed k i b y q))
          (λ y. has_or_r seen word i (own.closed k i b y q)) (or_has seen word k p);
      least = λ H a b i p. ⊎_elim (h.upward.least H a b i) (own.least H a b i) (or_has seen word i p);
    };
  }
    where
      word : ℕ
      word = get_or w (above_at + j) 0

      is : next ≡ without rest j
      is = next_without rest j next ej en

      reached : Reaching f (single j) word
      reached = known j l (h.in_rest j m)

      own : Upward f start word
      own = one_upward f start j word l (h.in_rest j m) reached

      go : (i : ℕ) → has start i ≡ true → has next i ≡ false → Dec (i ≡ j) → has (bit_or seen word) i ≡ true
      go i p n (yes e) = rw e (has_or_r seen word j (reached.starts j (rw (single_is j l) (power_in j))))
      go i p n (no d) = has_or_l seen word i (h.starts i p (not_in rest i (λ y. in_not next i (rw is (has_without rest j i y d)) n)))

  pub gathering_done : rest ≤ 0 → Reaching f start seen
  gathering_done z = let e : rest ≡ 0 = omega arith in record { starts = λ i p. h.starts i p (rw e (has_zero i)); upward = h.upward }

pub ruleset gatherings = (fewer, gathering_start, gathering_more, gathering_done)
