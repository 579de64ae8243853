-- A law for each return of settle.rt, and for its loops: one principal's places are right once they are made anew, and when no
-- principal is left the sets are those of the policy.
use mathlib.Core.Path.{◌≡◌, refl, sym, ap, ◌∙◌}
use Prim.Native.Nat.{ℕ, suc, ◌+◌, ◌-◌, ◌/◌, ◌%◌, ◌^◌, ◌<◌, ◌≤◌}
use mathlib.Core.Logic.{⊎_elim}
use mathlib.Core.List.{List}
use mathlib.Core.Bool.{Bool, true, false}
use native.Mathlib.Omega.{arith}
use native.Mathlib.Decide.{ℕ_discrete}
use mir.Val.{Fits}
use mir.Syntax.{w32}
use lib.Dec.{eqb}
use lib.Pow.{pow-lt}
use lib.Bits.{bit_and, bit_or, bit_xor}
use lib.Count.{count_trailing_zeros}
use lib.ListN.{length, get_or, set, length-set}
use lib.Seq.{get_or-set_same, get_or-set_other}
use Rattle.model.specs.Limits.{principal_limit, role_limit}
use Rattle.model.specs.Sets.{has, with, without}
use Rattle.model.specs.Policy.{roles, members, takes, Accepted}
use Rattle.model.specs.Syntax.{Atom, role, fixed, atom_byte}
use Rattle.model.specs.Fits.{AtomFits}
use Rattle.model.specs.Atoms.{atom_set}
use Rattle.model.specs.Meaning.{meaning}
use Rattle.model.proofs.Accepted.{accepted_facts}
use Rattle.model.proofs.Below.{last_or}
use Rattle.model.proofs.Sets.{half_has, has_zero, not_in, in_not, in_none, has_or_l, has_or_r, or_has, and_has, or_grows, power_in, with_has, has_without, without_has, xor_has, xor_none, same_sets}
use Rattle.model.proofs.Truth.{same_truth}
use Rattle.shared.specs.Words.{single}
use Rattle.shared.proofs.SetLaws.{single_is, next_without, fewer}
use Rattle.tracked.specs.Live.{atom_words, Live}
use Rattle.tracked.specs.Index.{holders_at, moved_at, known_at, rewired_at, index_words, current, before, Indexed, Untouched, placed, Few, Sifted, Fresh, Column, Upward, Reaching, Known, Learnt, Tracked}
use Rattle.settling.specs.Settle.{Settling, Settled, Spread}
use Rattle.tracked.proofs.IndexLaws.{count_is, placed_same, placed_other, placed_both, placed_off, power_below, transposed_kept, known_kept, none_upward, one_upward}
use Rattle.tracked.proofs.KeepLaws.{untouched_now}
use Rattle.tracked.proofs.TrackedLaws.{few_roles, taker_there, column_means, tracked_live, fresh_sifted}
use Rattle.tracked.proofs.AtomLaws.{behind}

-- how far a search upwards has come: with the roles that are done, all that take them in are seen
pub record Climbing (f : ℕ → ℕ) (start seen done : ℕ) : Type 0 where
  pub starts : (i : ℕ) → has start i ≡ true → has seen i ≡ true
  pub done_seen : (i : ℕ) → has done i ≡ true → has seen i ≡ true
  pub done_closed : (j i : ℕ) → j < role_limit → has done j ≡ true → has (f j) i ≡ true → has seen i ≡ true
  pub least : (H : ℕ → Bool) → ((i : ℕ) → has start i ≡ true → H i ≡ true) → ((j i : ℕ) → j < role_limit → H j ≡ true → has (f j) i ≡ true → H i ≡ true)
      → (i : ℕ) → has seen i ≡ true → H i ≡ true

pub climbing_start : (f : ℕ → ℕ) (start found : ℕ) → Upward f start found → Climbing f start (bit_or start found) found
climbing_start f start found h = record {
  starts = λ i p. has_or_l start found i p;
  done_seen = λ i p. has_or_r start found i p;
  done_closed = λ j i l p m. has_or_r start found i (h.closed j i l p m);
  least = λ H a b i p. ⊎_elim (a i) (h.least H a b i) (or_has start found i p);
}

module _ (w : List ℕ) (start seen done left : ℕ) (e : left ≡ bit_xor seen done) (h : Climbing (current w) start seen done) where
  module _ (j : ℕ) (m : has left j ≡ true) (small : j < role_limit) where
    here : (has seen j ≡ true) × (has done j ≡ false)
    here = xor_has seen done j (h.done_seen j) (rw e at m)

    pub climbing_more : (next : ℕ) → next ≡ with done j → Climbing (current w) start (bit_or seen (get_or w j 0)) next
    climbing_more next n = rw n (record {
      starts = λ i p. has_or_l seen (get_or w j 0) i (h.starts i p);
      done_seen = λ i p. has_or_l seen (get_or w j 0) i (⊎_elim (λ q. rw q here.0) (h.done_seen i) (with_has done j i p));
      done_closed = λ k i l p q. ⊎_elim
          (λ f. has_or_r seen (get_or w j 0) i (rw f at q))
          (λ f. has_or_l seen (get_or w j 0) i (h.done_closed k i l f q)) (with_has done j k p);
      least = λ H f g i p. ⊎_elim (h.least H f g i) (λ q. g j i small (h.least H f g j here.0) q) (or_has seen (get_or w j 0) i p);
    })

    pub climbing_less : (next : ℕ) → next ≡ with done j → next < 2 ^ 64 → 2 ^ 64 - next < 2 ^ 64 - done
    climbing_less next n l = omega (arith, or_grows done (2 ^ j) j (power_in j) here.1)

  pub climbing_done : left ≤ 0 → Reaching (current w) start seen
  climbing_done z =
      let q : seen ≡ done = xor_none seen done (omega arith) in
      record { starts = h.starts; upward = record { closed = λ j i l p m. h.done_closed j i l (rw q at p) m; least = h.least } }

pub ruleset climbings = (climbing_start, climbing_more, climbing_less, climbing_done)

-- the roles in `start` that are not known
module _ (w : List ℕ) (start known : ℕ) (e : known ≡ get_or w known_at 0) where
  pub all_known : Known (current w) w (get_or w known_at 0) → bit_xor start (bit_and start known) ≡ 0 → Known (current w) w start
  unfolding Known
  all_known h z j l m = h j l (rw e at (and_has start known j (rw (← xor_none start (bit_and start known) z) m)).1)

  pub first_upward : (j one : ℕ) → has (bit_xor start (bit_and start known)) j ≡ true → j < role_limit → Reaching (current w) (single j) one → Upward (current w) start one
  first_upward j one m l = one_upward (current w) start j one l (xor_has start (bit_and start known) j (λ p. (and_has start known j p).0) m).0

pub learnt_nothing : (w : List ℕ) → Known (current w) w (get_or w known_at 0) → Learnt w w
learnt_nothing w h = record { long = refl; same = λ k l. refl; behind = λ k l. refl; known = h }

pub single_reaching : (f : ℕ → ℕ) (j x one : ℕ) → x ≡ single j → Reaching f x one → Reaching f (single j) one
single_reaching f j x one e h = rw e at h

pub ruleset reachings = (all_known, none_upward, first_upward, learnt_nothing, single_reaching)

-- a set with or without a principal
module _ (here : Bool) (old p x : ℕ) (l : p < principal_limit) (e : x ≡ single p) where
  bit_is : x ≡ 2 ^ p
  bit_is = e ∙ single_is p (omega arith)

  pub bit_fits : Fits w32 x
  bit_fits = record { fits = rw bit_is (pow-lt l) }

  pub bit_below : x ≤ bit_or old x
  bit_below = rw bit_is (power_below old p)

  pub bit_both : here ≡ true → bit_or old x ≡ placed here old p
  bit_both h = rw bit_is (placed_both old p here h)

  pub bit_off : here ≡ false → bit_or old x - x ≡ placed here old p
  bit_off h = rw bit_is (placed_off old p here h)

pub ruleset placeds = (bit_fits, bit_below, bit_both, bit_off)

pub place_so : (w : List ℕ) (i x p v : ℕ) (here : Bool) → x ≡ get_or w i 0 → v ≡ placed here x p → set w i v ≡ set w i (placed here (get_or w i 0) p)
place_so w i x p v here e f = rw (f, e) refl

-- the first n words have the principal, or not, as they are to
pub record Over (n among p : ℕ) (w u : List ℕ) : Type 0 where
  pub long : length u ≡ length w
  pub inside : (r : ℕ) → r < n → get_or u r 0 ≡ placed (has among r) (get_or w r 0) p
  pub outside : (r : ℕ) → n ≤ r → get_or u r 0 ≡ get_or w r 0

over_more : (among p : ℕ) (w : List ℕ) (n m : ℕ) (u v : List ℕ) (b : Bool) → m ≡ n → Over n among p w u → n < length u → b ≡ has among n → v ≡ set u m (placed b (get_or u m 0) p) → Over (n + 1) among p w v
over_more among p w n m u v b em h l eb ev = rw (ev, em) (record {
  long = length-set u n _ ∙ h.long;
  inside = λ r k. ⊎_elim
      (λ q. rw q (get_or-set_same u n _ 0 l ∙ rw (eb, h.outside n (omega arith)) refl))
      (λ q. get_or-set_other u n r _ 0 (λ z. omega arith) ∙ h.inside r q) (last_or n r (omega arith));
  outside = λ r k. get_or-set_other u n r _ 0 (λ z. omega arith) ∙ h.outside r (omega arith);
})

-- one principal in or out of the sets, four roles at a time; the rest is of the roles from n on
pub record Spreading (n among rest p : ℕ) (w u : List ℕ) : Type 0 where
  pub over : Over n among p w u
  pub ahead : (k : ℕ) → has rest k ≡ has among (n + k)

module _ (among p : ℕ) (w : List ℕ) where
  module _ (n rest : ℕ) (u : List ℕ) (h : Spreading n among rest p w u) where
    pub spreading_more : (b₀ b₁ b₂ b₃ : Bool) (u₁ u₂ u₃ u₄ : List ℕ) → n + 3 < length u
        → b₀ ≡ has (rest % 16) 0 → u₁ ≡ set u n (placed b₀ (get_or u n 0) p)
        → b₁ ≡ has (rest % 16) 1 → u₂ ≡ set u₁ (n + 1) (placed b₁ (get_or u₁ (n + 1) 0) p)
        → b₂ ≡ has (rest % 16) 2 → u₃ ≡ set u₂ (n + 2) (placed b₂ (get_or u₂ (n + 2) 0) p)
        → b₃ ≡ has (rest % 16) 3 → u₄ ≡ set u₃ (n + 3) (placed b₃ (get_or u₃ (n + 3) 0) p) → Spreading (n + 4) among (rest / 16) p w u₄
    spreading_more b₀ b₁ b₂ b₃ u₁ u₂ u₃ u₄ room e₀ f₀ e₁ f₁ e₂ f₂ e₃ f₃ = record {
      over =
          let one = over_more among p w n n u u₁ b₀ refl h.over (omega arith) (is 0 n b₀ (omega arith) e₀ (omega arith)) f₀ in
          let two = over_more among p w (n + 1) (n + 1) u₁ u₂ b₁ refl one (omega (arith, one.long, h.over.long)) (is 1 (n + 1) b₁ (omega arith) e₁ (omega arith)) f₁ in
          let three = over_more among p w (n + 1 + 1) (n + 2) u₂ u₃ b₂ (omega arith) two (omega (arith, two.long, h.over.long)) (is 2 (n + 1 + 1) b₂ (omega arith) e₂ (omega arith)) f₂ in
          let four = over_more among p w (n + 1 + 1 + 1) (n + 3) u₃ u₄ b₃ (omega arith) three (omega (arith, three.long, h.over.long)) (is 3 (n + 1 + 1 + 1) b₃ (omega arith) e₃ (omega arith)) f₃ in
          let q : n + 1 + 1 + 1 + 1 ≡ n + 4 = omega arith in
          rw q at four;
      ahead = ahead;
    }
      where
        -- the test of the k-th of the four is that of role m
        is : (k m : ℕ) (b : Bool) → rest % 16 / 2 ^ k % 2 ≡ rest / 2 ^ k % 2 → b ≡ has (rest % 16) k → m ≡ n + k → b ≡ has among m
        is k m b q f g = f ∙ ap (λ (x : ℕ). eqb x 1) q ∙ h.ahead k ∙ ap (has among) (sym g)

        ahead : (k : ℕ) → has (rest / 16) k ≡ has among (n + 4 + k)
        ahead k =
            let q : rest / 16 ≡ rest / 2 / 2 / 2 / 2 = omega arith in
            let g : n + suc (suc (suc (suc k))) ≡ n + 4 + k = omega arith in
            ap (λ (x : ℕ). has x k) q ∙ half_has (rest / 2 / 2 / 2) k ∙ half_has (rest / 2 / 2) (suc k) ∙ half_has (rest / 2) (suc (suc k)) ∙ half_has rest (suc (suc (suc k)))
            ∙ h.ahead (suc (suc (suc (suc k)))) ∙ ap (has among) g

    pub spreading_done : (count : ℕ) → count ≤ n → n ≤ role_limit → Spread count among p w u
    spreading_done count l k = record { long = h.over.long; inside = λ r b. h.over.inside r (omega arith); outside = λ r b. h.over.outside r (omega arith) }

-- the roles from which one that has the principal p as a member is reached are those that mean p
module _ (s w : List ℕ) (ok : Accepted s) (h : Indexed s (roles s) w) (p among : ℕ) (l : p < principal_limit) (g : Reaching (current w) (get_or w (holders_at + p) 0) among) where
  means : Column (roles s) (current w) (get_or w (holders_at + p) 0) (λ r. has (meaning s r) p)
  means = column_means s w ok h p l

  among_means : (r : ℕ) → has among r ≡ true → has (meaning s r) p ≡ true
  among_means = g.upward.least (λ r. has (meaning s r) p) (λ i m. means.starts i (h.holders.below p i l m) m)
      (λ j i k q m. let (a, b) = taker_there s w ok h j i k m in means.closed j i a b q m)

  means_among : (r : ℕ) → r < roles s → has (meaning s r) p ≡ true → has among r ≡ true
  means_among = means.least (has among) (λ i b m. g.starts i m) (λ j i a b q m. g.upward.closed j i (omega (arith, few_roles s w ok h)) q m)

  pub among_is : (r : ℕ) → r < roles s → has among r ≡ has (meaning s r) p
  among_is r b = same_truth (has among r) (has (meaning s r) p) (among_means r) (means_among r b)

-- the words of a policy stay those where they are the same
indexed_kept : (s : List ℕ) (n : ℕ) (w u : List ℕ) → Indexed s n w → length u ≡ length w → ((k : ℕ) → k < moved_at → get_or u k 0 ≡ get_or w k 0) → Indexed s n u
indexed_kept s n w u h long kept = record {
  long = long ∙ h.long;
  takers = transposed_kept (takes s) 0 role_limit n w u h.takers (takes s) (λ i j k. refl) (λ j l. kept (0 + j) (omega arith));
  holders = transposed_kept (members s) holders_at principal_limit n w u h.holders (members s) (λ i j k. refl) (λ j l. kept (holders_at + j) (omega arith));
}

module _ (s atoms w : List ℕ) where
  pub tracked_long : Tracked s atoms w → length w ≡ index_words
  tracked_long h = h.mirrored.indexed.long

  pub tracked_atoms : Tracked s atoms w → length atoms ≡ atom_words
  tracked_atoms h = h.fixed_live.long

  pub tracked_few : Tracked s atoms w → Few (get_or w moved_at 0)
  tracked_few h = h.mirrored.few_moved

  pub settling_start : (u : List ℕ) (some : ℕ) → Tracked s atoms w → Sifted atoms w u some → Settling s atoms u some
  settling_start u some h g = record {
    fixed_live = h.fixed_live;
    indexed = indexed_kept s (roles s) w u h.mirrored.indexed g.long g.same;
    untouched = g.untouched;
    few = g.few;
    fresh = fresh_sifted s atoms w u some h g;
    known = known_kept (before w) (current u) w u _ _ h.known (λ j m. let (b, c) = g.known j m in (b, λ k l. g.same k (omega arith) ∙ sym (c k l))) g.above;
  }

  module _ (some : ℕ) (h : Settling s atoms w some) where
    pub settling_few : (p : ℕ) → has some p ≡ true → p < principal_limit
    unfolding Few
    settling_few p m = h.few p m

    pub settling_roles : (c : ℕ) → c ≡ roles s → c ≤ role_limit
    settling_roles c e = omega (arith, (accepted_facts s h.fixed_live.accepted).roles_fit)

    pub settling_long : length w ≡ index_words
    settling_long = h.indexed.long

    pub settling_known : Known (current w) w (get_or w known_at 0)
    settling_known = h.known

    pub settling_atoms : length atoms ≡ atom_words
    settling_atoms = h.fixed_live.long

    pub settling_more : (count p start among next : ℕ) (atoms₁ w₁ : List ℕ) → count ≡ roles s → p ≡ count_trailing_zeros 64 some → has some p ≡ true → start ≡ get_or w (holders_at + p) 0
        → Learnt w w₁ → Reaching (current w) start among → Spread count among p atoms atoms₁ → next ≡ without some (count_trailing_zeros 64 some) → Settling s atoms₁ w₁ next
    unfolding Fresh Few
    settling_more count p start among next atoms₁ w₁ ec ep m es new g d en = record {
      fixed_live = record {
        accepted = ok;
        long = d.long ∙ h.fixed_live.long;
        sets = λ f l. d.outside (atom_byte (fixed f)) (behind role_limit (omega arith) f) ∙ h.fixed_live.sets f l;
      };
      indexed = indexed_kept s (roles s) w w₁ h.indexed new.long (λ k l. new.same k (omega arith));
      untouched = record { none_moved = new.same moved_at (omega arith) ∙ h.untouched.none_moved; none_rewired = new.behind rewired_at (omega arith) ∙ h.untouched.none_rewired };
      few = λ q n. h.few q (without_has some p q (rw is at n)).0;
      fresh = λ r q l n. go r q l n (ℕ_discrete q p);
      known = new.known;
    }
      where
        ok : Accepted s
        ok = h.fixed_live.accepted

        is : next ≡ without some p
        is = next_without some p next ep en

        go : (r q : ℕ) → r < roles s → has next q ≡ false → Dec (q ≡ p) → has (get_or atoms₁ r 0) q ≡ has (meaning s r) q
        go r q l n (yes e) =
            rw (e, d.inside r (omega arith)) (placed_same (get_or atoms r 0) p (has among r) ∙ among_is s w ok h.indexed p among (h.few p m) (rw es at g) r l)
        go r q l n (no c) =
            rw (d.inside r (omega arith)) (placed_other (get_or atoms r 0) p (has among r) q c ∙ h.fresh r q l (not_in some q (λ y. in_not next q (rw is (has_without some p q y c)) n)))

    pub settling_done : some ≤ 0 → Settled s atoms w
    unfolding Fresh atom_set
    settling_done z = record { tracked = tracked_live s atoms w live h.indexed h.untouched h.known; live = live }
      where
        none : (p : ℕ) → has some p ≡ false
        none p = let n : some ≡ 0 = omega arith in rw n (has_zero p)

        sets : (a : Atom) → AtomFits (roles s) a → get_or atoms (atom_byte a) 0 ≡ atom_set s a
        sets (role j) l = same_sets _ _ (λ p m. sym (h.fresh j p l (none p)) ∙ m) (λ p m. h.fresh j p l (none p) ∙ m)
        sets (fixed a) l = h.fixed_live.sets a l

        live : Live s atoms
        live = record { accepted = h.fixed_live.accepted; long = h.fixed_live.long; sets = sets }

  -- where nothing was touched the sets are right
  pub settled_already : Tracked s atoms w → (x : ℕ) → x ≡ bit_or (get_or w moved_at 0) (get_or w rewired_at 0) → x ≡ 0 → Settled s atoms w
  unfolding Few
  settled_already h x e z = settling_done 0 (settling_start w 0 h still) (omega arith)
    where
      both : bit_or (get_or w moved_at 0) (get_or w rewired_at 0) ≡ 0
      both = sym e ∙ z

      untouched : Untouched w
      untouched = record {
        none_moved = same_sets _ 0 (λ i m. rw both at (has_or_l (get_or w moved_at 0) (get_or w rewired_at 0) i m)) (λ i m. in_none i m);
        none_rewired = same_sets _ 0 (λ i m. rw both at (has_or_r (get_or w moved_at 0) (get_or w rewired_at 0) i m)) (λ i m. in_none i m);
      }

      still : Sifted atoms w w 0
      still = record {
        long = refl;
        same = λ k l. refl;
        untouched = untouched;
        known = λ j m. (m, λ k l. untouched_now w untouched k);
        above = λ j l. refl;
        few = λ p m. in_none p m;
        holders = λ p l n. untouched_now w untouched (holders_at + p);
        takers = λ p k l m n. untouched_now w untouched k;
      }

pub ruleset settlings = (fewer, count_is, settled_already, settling_start, settling_few, settling_roles, settling_long, settling_known, settling_atoms, tracked_long, tracked_atoms, tracked_few, settling_more, settling_done)
