-- A search goes on by what another has from a role that it has seen. Once it is done with all that it has seen, its bits are closed over those, so they are the role's meaning.
use mathlib.Core.Path.{◌≡◌, refl, sym, ap, ◌∙◌}
use mathlib.Core.Logic.{◌⊎◌, inl, inr, ⊎_elim}
use Prim.Native.Nat.{ℕ, ◌+◌, ◌-◌, ◌/◌, ◌^◌, ◌<◌, ◌≤◌}
use mathlib.Core.List.{List}
use mathlib.Core.Bool.{Bool, true, false, cond, true≢false}
use native.Mathlib.Omega.{arith}
use lib.Bits.{bit_or, bit_xor, or_lt}
use lib.ListN.{length, get_or, set, length-set}
use lib.Pow.{pow-lt, shr-shr}
use lib.Seq.{get_or-set_same, get_or-set_other, ext_get_or}
use Rattle.model.specs.Limits.{role_limit}
use Rattle.model.specs.Sets.{has, with}
use Rattle.model.specs.Policy.{roles, HasRow, members, takes, Accepted}
use Rattle.model.specs.Meaning.{meanings, meaning}
use Rattle.model.proofs.Accepted.{accepted_facts}
use Rattle.model.proofs.Rows.{accepted_row}
use Rattle.model.proofs.Sets.{in_not, in_none, has_or_l, has_or_r, or_has, or_grows, has_below, power_is, power_in, has_with_same, with_has, with_below, xor_has, xor_in, xor_none, subset_le, same_sets, has_zero}
use Rattle.model.proofs.Truth.{true_or_false}
use Rattle.model.proofs.Least.{meaning_closed, meaning_least}
use Rattle.policy.proofs.TakesLaws.{same_or}
use Rattle.meaning.proofs.MeaningLaws.{meanings_length}
use Rattle.shared.specs.Words.{United}
use Rattle.shared.proofs.UnionLaws.{unions}
use Rattle.meaning.specs.Reach.{Reached, Found, Searches}

-- a search begins with the role itself
pub begun : (s : List ℕ) (r one : ℕ) → r < roles s → one ≡ with 0 r → Reached s r one 0 0
begun s r one l e = rw e (record {
  start = power_in r;
  inside = pow-lt l;
  done_seen = λ j d. in_none j d;
  seen_means = λ j p h m. rw (power_is r j h) at m;
  bits_means = λ p h. in_none p h;
  done_own = λ j p d. in_none j d;
  done_taken = λ j k d. in_none j d;
})

-- what a role's row says is a search from it that is done with the role itself
module _ (s : List ℕ) (ok : Accepted s) (j : ℕ) (l : j < roles s) where
  pub role_small : j < 64
  role_small = omega (arith, (accepted_facts s ok).roles_fit)

  row_fits : takes s j < 2 ^ roles s
  row_fits = ((accepted_facts s ok).row j l).takes_below

  row_reached : Reached s j (with (takes s j) j) (2 ^ j) (members s j)
  row_reached = record {
    start = has_with_same (takes s j) j;
    inside = with_below (roles s) (takes s j) j row_fits l;
    done_seen = λ i d. rw (power_is j i d) (has_with_same (takes s j) j);
    seen_means = λ i p h m. ⊎_elim (λ e. rw e at m) (λ t. (meaning_closed s).taken j i p l (has_below (roles s) (takes s j) i row_fits t) t m) (with_has (takes s j) j i h);
    bits_means = λ p h. (meaning_closed s).own j p l h;
    done_own = λ i p d h. rw (power_is j i d) at h;
    done_taken = λ i k d t. has_or_l (takes s j) (2 ^ j) k (rw (power_is j i d) at t);
  }

  pub row_found : (takes' seen done bits : ℕ) → takes' ≡ takes s j → seen ≡ with takes' j → done ≡ with 0 j → bits ≡ members s j → Found s j seen done bits
  row_found takes' seen done bits t a b c = rw (a, t, b, c) (record { reached = row_reached; self = power_in j })

module _ (s : List ℕ) (r seen done bits : ℕ) (h : Reached s r seen done bits) where
  -- a search takes over another, from a role that it has seen
  joined : (j seen' done' bits' : ℕ) → has seen j ≡ true → Reached s j seen' done' bits' → Reached s r (bit_or seen seen') (bit_or done done') (bit_or bits bits')
  joined j seen' done' bits' m g = record {
    start = has_or_l seen seen' r h.start;
    inside = or_lt (roles s) seen seen' h.inside g.inside;
    done_seen = λ i d. ⊎_elim (λ a. has_or_l seen seen' i (h.done_seen i a)) (λ a. has_or_r seen seen' i (g.done_seen i a)) (or_has done done' i d);
    seen_means = λ i p v q. ⊎_elim (λ a. h.seen_means i p a q) (λ a. h.seen_means j p m (g.seen_means i p a q)) (or_has seen seen' i v);
    bits_means = λ p b. ⊎_elim (λ a. h.bits_means p a) (λ a. h.seen_means j p m (g.bits_means p a)) (or_has bits bits' p b);
    done_own = λ i p d o. ⊎_elim (λ a. has_or_l bits bits' p (h.done_own i p a o)) (λ a. has_or_r bits bits' p (g.done_own i p a o)) (or_has done done' i d);
    done_taken = λ i k d t. ⊎_elim (λ a. has_or_l seen seen' k (h.done_taken i k a t)) (λ a. has_or_r seen seen' k (g.done_taken i k a t)) (or_has done done' i d);
  }

  -- a role that is left
  module _ (j : ℕ) (m : has (bit_xor seen done) j ≡ true) where
    left_in : (has seen j ≡ true) × (has done j ≡ false)
    left_in = xor_has seen done j (h.done_seen j) m

    left_inside : j < roles s
    left_inside = has_below (roles s) seen j h.inside left_in.0

    -- once it is done with it, fewer are left
    left_fewer : (done' : ℕ) → has done' j ≡ true → 2 ^ roles s - bit_or done done' < 2 ^ roles s - done
    left_fewer done' d = omega (arith, subset_le done seen h.done_seen, h.inside, or_grows done done' j d left_in.1)

  -- a search that is done with all that it has seen has the role's meaning
  whole : seen ≡ done → bits ≡ meaning s r
  whole e = same_sets bits (meaning s r) h.bits_means (λ p m. meaning_least s (λ j q. has done j ≡ true → has bits q ≡ true) (record {
    own = λ j q l o d. h.done_own j q d o;
    taken = λ j k q l i t f d. f (rw e at (h.done_taken j k d t));
  }) r p m (rw e at h.start))

-- a choice that is true where its condition holds
true_cond : (a b : Bool) → (a ≡ true → b ≡ true) → cond a b true ≡ true
true_cond true b f = f refl
true_cond false b f = refl

cond_true : (a b : Bool) → a ≡ true → cond a b true ≡ true → b ≡ true
cond_true true b e f = f
cond_true false b e f = absurd (true≢false (sym e))

-- what is left, as the code has it: all, or from some role on
module _ (seen done left : ℕ) where
  pub left_of : left ≡ bit_xor seen done → (j : ℕ) → has left j ≡ true → has (bit_xor seen done) j ≡ true
  left_of e j m = rw e at m

  pub left_from : (i : ℕ) → left ≡ bit_xor seen done / 2 ^ i → (j : ℕ) → has left j ≡ true → has (bit_xor seen done) (i + j) ≡ true
  left_from i e j m = rw shr-shr at (rw e at m)

  left_none : left ≡ bit_xor seen done → left ≤ 0 → seen ≡ done
  left_none e z = xor_none seen done (omega arith)

pub left_whole : (s : List ℕ) (r seen done bits left : ℕ) → Reached s r seen done bits → left ≡ bit_xor seen done → left ≤ 0 → bits ≡ meaning s r
left_whole s r seen done bits left h e z = whole s r seen done bits h (left_none seen done left e z)

-- a role that is still left of some has a row
pub left_row : (s : List ℕ) → Accepted s → (some : ℕ) → some < 2 ^ roles s → (j : ℕ) → has some j ≡ true → HasRow s j
left_row s ok some l j m = accepted_row s ok (roles s) j refl (has_below (roles s) some j l m)

pub ruleset row_laws = (left_row, unions)

-- a search is done with all that was left, once what these take in is seen and their members are added
module _ (s : List ℕ) (ok : Accepted s) (r seen done bits new : ℕ) (h : Reached s r seen done bits) (e : new ≡ bit_xor seen done) where
  left_seen : (j : ℕ) → has new j ≡ true → has seen j ≡ true
  left_seen j m = (left_in s r seen done bits h j (rw e at m)).0

  left_role : (j : ℕ) → has new j ≡ true → j < roles s
  left_role j m = has_below (roles s) seen j h.inside (left_seen j m)

  pub new_inside : new < 2 ^ roles s
  new_inside = omega (arith, subset_le new seen left_seen, h.inside)

  left_or : (j : ℕ) → has seen j ≡ true → (has done j ≡ true) ⊎ (has new j ≡ true)
  left_or j m = ⊎_elim inl (λ n. inr (rw e (xor_in seen done j m n))) (true_or_false (has done j))

  pub round : (seen' bits' : ℕ) → United (takes s) new 0 seen seen' → United (members s) new 0 bits bits' → Reached s r seen' seen bits'
  round seen' bits' t m = record {
    start = t.kept r h.start;
    inside = t.below (roles s) h.inside (λ j k. ((accepted_facts s ok).row j (left_role j k)).takes_below);
    done_seen = λ j d. t.kept j d;
    seen_means = λ k p. means k p;
    bits_means = m.least (λ p. has (meaning s r) p) h.bits_means (λ j p k o. h.seen_means j p (left_seen j k) ((meaning_closed s).own j p (left_role j k) o));
    done_own = λ j p d o. ⊎_elim (λ a. m.kept p (h.done_own j p a o)) (λ a. m.added j p a (has_zero j) o) (left_or j d);
    done_taken = λ j k d q. ⊎_elim (λ a. t.kept k (h.done_taken j k a q)) (λ a. t.added j k a (has_zero j) q) (left_or j d);
  }
    where
      means : (k p : ℕ) → has seen' k ≡ true → has (meaning s k) p ≡ true → has (meaning s r) p ≡ true
      means k p a b = cond_true (has (meaning s k) p) (has (meaning s r) p) b
          (t.least (λ i. cond (has (meaning s i) p) (has (meaning s r) p) true)
          (λ i q. true_cond (has (meaning s i) p) (has (meaning s r) p) (h.seen_means i p q))
          (λ j i q g. true_cond (has (meaning s i) p) (has (meaning s r) p) (λ v. h.seen_means j p (left_seen j q) ((meaning_closed s).taken j i p (left_role j q) (has_below (roles s) (takes s j) i ((accepted_facts s ok).row j (left_role j q)).takes_below g) g v)))
          k a)

module _ (s : List ℕ) (r seen done bits : ℕ) (h : Reached s r seen done bits) where
  -- each round is done with more
  pub round_more : done < seen → 2 ^ roles s - seen < 2 ^ roles s - done
  round_more l = omega (arith, h.inside)

  pub round_last : seen ≤ done → bits ≡ meaning s r
  round_last l = whole s r seen done bits h (omega (arith, subset_le done seen h.done_seen))

pub ruleset set_laws = (role_small, begun, new_inside, round, round_more, round_last)

-- what was put into a place
set_here : (l : List ℕ) (i r x : ℕ) → i < length l → r ≡ i → get_or (set l i x) r 0 ≡ x
set_here l i r x h e = ap (λ (n : ℕ). get_or (set l i x) n 0) e ∙ get_or-set_same l i x 0 h

-- searches side by side
module _ (s : List ℕ) (n : ℕ) (seen done sets : List ℕ) (x : Searches s n seen done sets) where
  module _ (i : ℕ) (l : i < roles s) where
    pub seen_inside : i < length seen
    seen_inside = omega (arith, x.few, x.seen_room)

    pub done_inside : i < length done
    done_inside = omega (arith, x.few, x.done_room)

    pub sets_inside : i < length sets
    sets_inside = omega (arith, x.sets_room)

    -- a search put in its role's place
    module _ (a b c : ℕ) (f : Found s i a b c) where
      put : (m : ℕ) → ((r : ℕ) → m ≤ r → (r ≡ i → ⊥) → n ≤ r) → Searches s m (set seen i a) (set done i b) (set sets i c)
      put m inside = record {
        few = x.few;
        seen_room = length-set seen i a ∙ x.seen_room;
        done_room = length-set done i b ∙ x.done_room;
        sets_room = length-set sets i c ∙ x.sets_room;
        each = λ r k h. ⊎_elim
            (λ e. rw (set_here seen i r a seen_inside e, set_here done i r b done_inside e, set_here sets i r c sets_inside e, e) f)
            (λ q. rw (get_or-set_other seen i r a 0 q, get_or-set_other done i r b 0 q, get_or-set_other sets i r c 0 q) (x.each r (inside r k q) h))
            (same_or r i);
      }

      pub put_again : Searches s n (set seen i a) (set done i b) (set sets i c)
      put_again = put n (λ r k q. k)

  pub role_inside : (i : ℕ) → i < length sets → i < roles s
  role_inside i l = omega (arith, x.sets_room)

  -- the next role down
  module _ (i : ℕ) (l : i < roles s) (h : n ≡ i + 1) where
    pub put_before : (a b c : ℕ) → Found s i a b c → Searches s i (set seen i a) (set done i b) (set sets i c)
    put_before a b c f = put i l a b c f i (λ r k q. omega arith)

-- no search yet
pub none_put : (s seen done sets : List ℕ) → Accepted s → length seen ≡ role_limit → length done ≡ role_limit → length sets ≡ roles s → Searches s (roles s) seen done sets
none_put s seen done sets ok a b c = record {
  few = (accepted_facts s ok).roles_fit;
  seen_room = a;
  done_room = b;
  sets_room = c;
  each = λ r k h. absurd (omega arith);
}

pub ruleset down_laws = (seen_inside, done_inside, role_inside, put_before)

-- a search from role i, gone on by those from role n on
module _ (s : List ℕ) (i reached passed bits j : ℕ) (f : Found s i reached passed bits) (m : has (bit_xor reached passed) j ≡ true) where
  pub far_role : j < roles s
  far_role = left_inside s i reached passed bits f.reached j m

  module _ (n : ℕ) (seen done sets : List ℕ) (x : Searches s n seen done sets) (g : n ≤ j) where
    pub far_turn : Found s i (bit_or reached (get_or seen j 0)) (bit_or passed (get_or done j 0)) (bit_or bits (get_or sets j 0))
    far_turn = record {
      reached = joined s i reached passed bits f.reached j _ _ _ (left_in s i reached passed bits f.reached j m).0 (x.each j g far_role).reached;
      self = has_or_l passed (get_or done j 0) i f.self;
    }

    pub far_fewer : 2 ^ roles s - bit_or passed (get_or done j 0) < 2 ^ roles s - passed
    far_fewer = left_fewer s i reached passed bits f.reached j m (get_or done j 0) (x.each j g far_role).self

-- what is left from its own role on lies above it
pub far_above : (s : List ℕ) (i reached passed bits k : ℕ) → Found s i reached passed bits → has (bit_xor reached passed) (i + k) ≡ true → i + 1 ≤ i + k
far_above s i reached passed bits k f m = go (same_or k 0)
  where
    go : (k ≡ 0) ⊎ (k ≡ 0 → ⊥) → i + 1 ≤ i + k
    go (inl e) =
        let z : i + k ≡ i = omega arith in
        in_not passed i f.self (left_in s i reached passed bits f.reached i (rw z at m)).1
    go (inr q) = omega arith

pub ruleset far_laws = (seen_inside, done_inside, sets_inside, far_role, far_turn, far_fewer)

pub ruleset above_laws = (accepted_row, role_small, row_found, left_from, far_above)

pub all_begun : (s seen done sets : List ℕ) (i : ℕ) → Searches s 0 seen done sets → i < roles s → Found s i (get_or seen i 0) (get_or done i 0) (get_or sets i 0)
all_begun s seen done sets i x l = x.each i (omega arith) l

pub ruleset on_laws = (all_begun, left_of, left_whole)

-- the first i sets are meanings
unfoldable pub Told : List ℕ → List ℕ → ℕ → Type 0
Told s sets i = (r : ℕ) → r < i → get_or sets r 0 ≡ meaning s r

pub told_none : (s sets : List ℕ) → Told s sets 0
unfolding Told
told_none s sets r l = absurd (omega arith)

pub told_next : (s sets : List ℕ) (i bits : ℕ) → Told s sets i → i < length sets → bits ≡ meaning s i → Told s (set sets i bits) (i + 1)
unfolding Told
told_next s sets i bits t l e r k = ⊎_elim
    (λ q. set_here sets i r bits l q ∙ rw q e)
    (λ q. get_or-set_other sets i r bits 0 q ∙ t r (omega arith))
    (same_or r i)

pub told_all : (s sets : List ℕ) (i : ℕ) → Told s sets i → length sets ≡ roles s → length sets ≤ i → sets ≡ meanings s
unfolding Told meaning
told_all s sets i t n l = ext_get_or 0 sets (meanings s) (n ∙ sym (meanings_length s)) (λ r k. t r (omega arith))

pub ruleset told_laws = (told_none, told_next, told_all)

pub ruleset up_laws = (seen_inside, done_inside, role_inside, put_again)
