-- A law for each return of keep, turn and the two notes: a word that is touched is kept as it was, so each word as it was stays
-- what it was.
use mathlib.Core.Path.{◌≡◌, refl, sym, ap, ◌∙◌}
use Prim.Native.Nat.{ℕ, ◌+◌, ◌-◌, ◌<◌, ◌≤◌}
use mathlib.Core.Logic.{◌⊎◌, inl, inr, ⊎_elim}
use mathlib.Core.List.{List}
use mathlib.Core.Bool.{Bool, true, false, cond, true≢false}
use native.Mathlib.Omega.{arith}
use native.Mathlib.Decide.{ℕ_discrete, dec_lt}
use lib.ListN.{length, get_or, set, length-set}
use lib.Seq.{get_or-set_same, get_or-set_other}
use borrow.Author.Tests.{lt-ltb, le-ltb, eq-eqb, ne_eqb}
use Rattle.model.specs.Limits.{principal_limit, role_limit}
use Rattle.model.specs.Sets.{has, with}
use Rattle.model.proofs.Sets.{has_zero, has_with_same, with_has}
use Rattle.tracked.specs.Index.{holders_at, moved_at, known_at, rewired_at, before_at, index_words, mark_at, mark_of, Mark, touched, before, Untouched, Few, placed, turns, Kept, Marked, Turned}
use Rattle.tracked.proofs.IndexLaws.{placed_other}

-- where the mark of a word stands
module _ (k mark x : ℕ) (g : Mark k mark x) where
  mark_low : k < holders_at → (mark ≡ rewired_at) × (x ≡ k)
  unfolding Mark
  mark_low l = rw (lt-ltb k holders_at l) at g

  mark_high : holders_at ≤ k → (mark ≡ moved_at) × (x ≡ k - holders_at)
  unfolding Mark
  mark_high l = rw (le-ltb k holders_at l) at g

  mark_either : (mark ≡ rewired_at) ⊎ ((mark ≡ moved_at) × (x ≡ k - holders_at))
  mark_either = go (dec_lt k holders_at)
    where
      go : Dec (k < holders_at) → (mark ≡ rewired_at) ⊎ ((mark ≡ moved_at) × (x ≡ k - holders_at))
      go (yes l) = inl (mark_low l).0
      go (no n) = inr (mark_high (omega arith))

  mark_behind : moved_at ≤ mark
  mark_behind = ⊎_elim (λ e. omega arith) (λ e. omega (arith, e.0)) mark_either

  mark_before : mark ≤ rewired_at
  mark_before = ⊎_elim (λ e. omega arith) (λ e. omega (arith, e.0)) mark_either

  mark_apart : (m : ℕ) → known_at ≤ m → m < rewired_at → m ≡ mark → ⊥
  mark_apart m l h q = ⊎_elim (λ e. omega arith) (λ e. omega (arith, e.0)) mark_either

  pub touched_by : (w : List ℕ) → touched w k ≡ has (get_or w mark 0) x
  unfolding Mark touched
  touched_by w = cc (g.0, g.1)

-- every word has one
mark_of_lem : (k : ℕ) → (mark : ℕ) × (x : ℕ) × Mark k mark x
unfolding Mark
mark_of_lem k = (mark_at k, mark_of k, (refl, refl))

-- no two words have the same
marks_apart : (m k mark x y : ℕ) → Mark m mark y → Mark k mark x → (m ≡ k → ⊥) → y ≡ x → ⊥
marks_apart m k mark x y f g n e = go (dec_lt m holders_at) (dec_lt k holders_at)
  where
    go : Dec (m < holders_at) → Dec (k < holders_at) → ⊥
    go (yes a) (yes b) = n (sym (mark_low m mark y f a).1 ∙ e ∙ (mark_low k mark x g b).1)
    go (yes a) (no b) = omega (arith, (mark_low m mark y f a).0, (mark_high k mark x g (omega arith)).0)
    go (no a) (yes b) = omega (arith, (mark_high m mark y f (omega arith)).0, (mark_low k mark x g b).0)
    go (no a) (no b) = n (omega (arith, (mark_high m mark y f (omega arith)).1, (mark_high k mark x g (omega arith)).1))

pub mark_member : (x : ℕ) → x < principal_limit → Mark (holders_at + x) moved_at x
unfolding Mark
mark_member x l = let e : holders_at + x - holders_at ≡ x = omega arith in rw (le-ltb (holders_at + x) holders_at (omega arith)) (refl, sym e)

pub mark_taken : (x : ℕ) → x < role_limit → Mark x rewired_at x
unfolding Mark
mark_taken x l = rw (lt-ltb x holders_at l) (refl, refl)

-- a word as it was, where it was touched and where not
module _ (w : List ℕ) (k : ℕ) where
  pub before_kept : touched w k ≡ true → before w k ≡ get_or w (before_at + k) 0
  unfolding before
  before_kept e = rw e refl

  pub before_now : touched w k ≡ false → before w k ≡ get_or w k 0
  unfolding before
  before_now e = rw e refl

  -- it stays what it was
  before_stays : (u : List ℕ) → touched u k ≡ touched w k → get_or u (before_at + k) 0 ≡ get_or w (before_at + k) 0 → (touched w k ≡ false → get_or u k 0 ≡ get_or w k 0) → before u k ≡ before w k
  unfolding before
  before_stays u e f g = go (touched w k) e g
    where
      go : (b : Bool) → touched u k ≡ b → (b ≡ false → get_or u k 0 ≡ get_or w k 0) → cond (touched u k) (get_or u (before_at + k) 0) (get_or u k 0) ≡ cond b (get_or w (before_at + k) 0) (get_or w k 0)
      go true e g = rw e f
      go false e g = rw e (g refl)

-- where no word was touched each is as it was
pub untouched_now : (w : List ℕ) → Untouched w → (k : ℕ) → before w k ≡ get_or w k 0
untouched_now w z k =
    let (mark, x, t) = mark_of_lem k in
    let none : (m : ℕ) → get_or w m 0 ≡ 0 → mark ≡ m → has (get_or w mark 0) x ≡ false = λ m n e. ap (λ (y : ℕ). has (get_or w y 0) x) e ∙ ap (λ (y : ℕ). has y x) n ∙ has_zero x in
    before_now w k (touched_by k mark x t w ∙ ⊎_elim (none rewired_at z.none_rewired) (λ e. none moved_at z.none_moved e.0) (mark_either k mark x t))

pub kept_same : (w : List ℕ) → Kept w w
kept_same w = record { long = refl; same_before = λ k l. refl; same_known = λ m l h. refl; few_moved = λ h. h }

pub kept_trans : (w u v : List ℕ) → Kept w u → Kept u v → Kept w v
kept_trans w u v f g = record {
  long = g.long ∙ f.long;
  same_before = λ k l. g.same_before k l ∙ f.same_before k l;
  same_known = λ m l h. g.same_known m l h ∙ f.same_known m l h;
  few_moved = λ h. g.few_moved (f.few_moved h);
}

-- where a mark is set the words stand as they stood
module _ (w : List ℕ) (k mark v : ℕ) (long : length w ≡ index_words) (l : k < moved_at) where
  pub word_inside : k < length (set w mark v)
  word_inside = rw length-set (omega arith)

  pub marked_inside : before_at + k < length (set w mark v)
  marked_inside = rw length-set (omega arith)

-- word k is touched, by the mark that it has
module _ (w : List ℕ) (k mark x : ℕ) (g : Mark k mark x) (a : ℕ) (e : a ≡ get_or w mark 0) (b : Bool) (f : b ≡ has a x) where
  was : touched w k ≡ b
  was = touched_by k mark x g w ∙ cc (e, f)

  pub marked_already : b ≡ true → Marked k w w
  marked_already h = record { kept = kept_same w; same = λ m l. refl; is_touched = was ∙ h }

  module _ (long : length w ≡ index_words) (l : k < moved_at) (h : b ≡ false) (c v : ℕ) (ec : c ≡ get_or w mark 0) (ev : v ≡ with c x) where
    mid : List ℕ
    mid = set w mark v

    u : List ℕ
    u = set mid (before_at + k) (get_or mid k 0)

    at_mark : get_or u mark 0 ≡ with (get_or w mark 0) x
    unfolding mid u
    at_mark = get_or-set_other mid (before_at + k) mark _ 0 (λ q. omega (arith, mark_before k mark x g))
        ∙ get_or-set_same w mark v 0 (omega (arith, mark_before k mark x g)) ∙ ev ∙ ap (λ (z : ℕ). with z x) ec

    elsewhere : (m : ℕ) → (m ≡ mark → ⊥) → (m ≡ before_at + k → ⊥) → get_or u m 0 ≡ get_or w m 0
    unfolding mid u
    elsewhere m n o = get_or-set_other mid (before_at + k) m _ 0 o ∙ get_or-set_other w mark m v 0 n

    now_touched : touched u k ≡ true
    now_touched = touched_by k mark x g u ∙ ap (λ (z : ℕ). has z x) at_mark ∙ has_with_same (get_or w mark 0) x

    own : before u k ≡ before w k
    unfolding mid u
    own = before_kept u k now_touched ∙ get_or-set_same mid (before_at + k) _ 0 (marked_inside w k mark v long l)
        ∙ get_or-set_other w mark k v 0 (λ q. omega (arith, mark_behind k mark x g)) ∙ sym (before_now w k (was ∙ h))

    -- the mark of another word is as it was
    other : (m mark₁ y : ℕ) → Mark m mark₁ y → (m ≡ k → ⊥) → Dec (mark₁ ≡ mark) → has (get_or u mark₁ 0) y ≡ has (get_or w mark₁ 0) y
    unfolding placed
    other m mark₁ y t n (yes q) = rw (q, at_mark) (placed_other (get_or w mark 0) x true y (marks_apart m k mark x y (rw q at t) g n))
    other m mark₁ y t n (no d) = ap (λ (z : ℕ). has z y) (elsewhere mark₁ d (λ q. omega (arith, mark_before m mark₁ y t)))

    others : (m : ℕ) → m < moved_at → (m ≡ k → ⊥) → before u m ≡ before w m
    others m b n =
        let (mark₁, y, t) = mark_of_lem m in
        before_stays w m u (touched_by m mark₁ y t u ∙ other m mark₁ y t n (ℕ_discrete mark₁ mark) ∙ sym (touched_by m mark₁ y t w))
        (elsewhere (before_at + m) (λ q. omega (arith, mark_before k mark x g)) (λ q. n (omega arith)))
        (λ z. elsewhere m (λ q. omega (arith, mark_behind k mark x g)) (λ q. omega arith))

    all : (m : ℕ) → m < moved_at → Dec (m ≡ k) → before u m ≡ before w m
    all m b (yes q) = rw q own
    all m b (no n) = others m b n

    at_moved : mark ≡ moved_at → get_or u moved_at 0 ≡ with (get_or w moved_at 0) x
    at_moved q = ap (λ (z : ℕ). get_or u z 0) (sym q) ∙ at_mark ∙ ap (λ (z : ℕ). with (get_or w z 0) x) q

    few : Few (get_or w moved_at 0) → Few (get_or u moved_at 0)
    unfolding Few
    few before p m = go (mark_either k mark x g)
      where
        go : (mark ≡ rewired_at) ⊎ ((mark ≡ moved_at) × (x ≡ k - holders_at)) → p < principal_limit
        go (inl q) = before p (sym (ap (λ (z : ℕ). has z p) (elsewhere moved_at (λ z. omega arith) (λ z. omega arith))) ∙ m)
        go (inr (q, i)) = ⊎_elim (λ z. omega arith) (before p) (with_has (get_or w moved_at 0) x p (sym (ap (λ (z : ℕ). has z p) (at_moved q)) ∙ m))

    pub marked_now : Marked k w (set (set w mark v) (before_at + k) (get_or (set w mark v) k 0))
    unfolding mid u
    marked_now = record {
      kept = record {
        long = length-set mid (before_at + k) _ ∙ length-set w mark v;
        same_before = λ m b. all m b (ℕ_discrete m k);
        same_known = λ m b c. elsewhere m (mark_apart k mark x g m b c) (λ q. omega arith);
        few_moved = few;
      };
      same = λ m b. elsewhere m (λ q. omega (arith, mark_behind k mark x g)) (λ q. omega arith);
      is_touched = now_touched;
    }

pub ruleset keepings = (marked_already, word_inside, marked_inside, marked_now)

-- a word that is changed, or not
module _ (k i : ℕ) (present : Bool) (w : List ℕ) (old v : ℕ) (eo : old ≡ get_or w k 0) (ev : v ≡ placed present old i) where
  word_is : v ≡ placed present (get_or w k 0) i
  word_is = cc (eo, ev)

  pub turned_not : v ≡ old → Turned k i present w w
  turned_not q = record { kept = kept_same w; word = sym eo ∙ sym q ∙ word_is; others = λ m l n. refl }

  pub turns_not : v ≡ old → false ≡ turns present (get_or w k 0) i
  unfolding turns
  turns_not q = rw (← word_is, q, ← eo, eq-eqb old old refl)

  pub turns_so : (v ≡ old → ⊥) → true ≡ turns present (get_or w k 0) i
  unfolding turns
  turns_so n = rw (← word_is, ← eo, ne_eqb v old n)

  module _ (u : List ℕ) (long : length w ≡ index_words) (l : k < moved_at) (h : Marked k w u) where
    kept_inside : k < length u
    kept_inside = omega (arith, h.kept.long)

    after : List ℕ
    after = set u k v

    behind : (m : ℕ) → moved_at ≤ m → get_or after m 0 ≡ get_or u m 0
    unfolding after
    behind m b = get_or-set_other u k m v 0 (λ q. omega arith)

    same_touched : (m : ℕ) → touched after m ≡ touched u m
    same_touched m =
        let (mark, x, t) = mark_of_lem m in
        touched_by m mark x t after ∙ ap (λ (z : ℕ). has z x) (behind mark (mark_behind m mark x t)) ∙ sym (touched_by m mark x t u)

    -- where another word is as it was so it is; word k itself was touched before
    before_same : (m : ℕ) → before after m ≡ before u m
    unfolding after
    before_same m = before_stays u m after (same_touched m) (behind (before_at + m) (omega arith))
        (λ z. get_or-set_other u k m v 0 (λ q. true≢false (sym h.is_touched ∙ rw q at z)))

    pub turned_so : Turned k i present w (set u k v)
    unfolding after Few
    turned_so = record {
      kept = record {
        long = length-set u k v ∙ h.kept.long;
        same_before = λ m b. before_same m ∙ h.kept.same_before m b;
        same_known = λ m b c. behind m (omega arith) ∙ h.kept.same_known m b c;
        few_moved = λ f p m. h.kept.few_moved f p (sym (ap (λ (z : ℕ). has z p) (behind moved_at (omega arith))) ∙ m);
      };
      word = get_or-set_same u k v 0 kept_inside ∙ word_is;
      others = λ m b n. get_or-set_other u k m v 0 n ∙ h.same m b;
    }

pub ruleset turnings = (turned_not, turns_not, turns_so, turned_so)
