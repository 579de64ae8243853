-- What is tracked of a policy: where the sets are right it follows from the words, a mutation keeps it, since each word as it was
-- when the sets were last right stays what it was, and from it the sets are right for all principals that are not sifted out.
use mathlib.Core.Path.{◌≡◌, refl, sym, ap, ◌∙◌}
use Prim.Native.Nat.{ℕ, ◌+◌, ◌<◌, ◌≤◌}
use mathlib.Core.List.{List}
use mathlib.Core.Bool.{Bool, true, false, ◌&&◌}
use native.Mathlib.Omega.{arith}
use native.Mathlib.Decide.{ℕ_discrete, dec_lt}
use lib.ListN.{get_or}
use Rattle.model.specs.Limits.{principal_limit, role_limit}
use Rattle.model.specs.Sets.{has}
use Rattle.model.specs.Policy.{reading, principals, roles, members, takes, viewers, watchers, Accepted, SameFixed, Agree}
use Rattle.model.specs.Meaning.{meaning}
use Rattle.model.specs.Syntax.{role}
use Rattle.model.specs.Atoms.{atom_set}
use Rattle.model.specs.Mutation.{Kind, addMember, deleteMember, addTaken, deleteTaken, operand_count, mutate}
use Rattle.model.proofs.Accepted.{accepted_facts}
use Rattle.model.proofs.Least.{meaning_closed, meaning_least}
use Rattle.model.proofs.Meaning.{meaning_watched}
use Rattle.model.proofs.Mutation.{mutate_fixed, mutate_other, mutate_row}
use Rattle.model.proofs.Sets.{not_in, in_none, has_below}
use Rattle.model.proofs.Truth.{same_truth, both, and_both}
use Rattle.tracked.specs.Live.{Live}
use Rattle.tracked.specs.Index.{holders_at, known_at, above_at, current, before, Indexed, Untouched, Loaded, Few, Mirrored, placed, Kept, Turned, Noted, Sifted, Fresh, Column, places, Known, Tracked}
use Rattle.tracked.proofs.AtomLaws.{fixed_of, fixed_stays}
use Rattle.tracked.proofs.IndexLaws.{transposed_kept, transposed_turned, known_kept, none_known}
use Rattle.tracked.proofs.KeepLaws.{untouched_now}

-- whoever a role means is a principal
meaning_small : (s : List ℕ) → Accepted s → (r : ℕ) → r < roles s → Few (meaning s r)
unfolding watchers Few
meaning_small s ok r l p m =
    let f = accepted_facts s ok in
    omega (arith, has_below (principals s) (viewers s r) p (f.row r l).viewers_below (meaning_watched reading s ok r p m), f.principals_fit)

-- by the words of a policy the roles that mean a principal are those that have it as a member and all that take one of them in
module _ (s w : List ℕ) (ok : Accepted s) (h : Indexed s (roles s) w) where
  pub few_roles : roles s ≤ role_limit
  few_roles = (accepted_facts s ok).roles_fit

  member_word : (p i : ℕ) → p < principal_limit → i < roles s → has (get_or w (holders_at + p) 0) i ≡ has (members s i) p
  member_word p i l b = h.holders.same p i l b

  taker_word : (j i : ℕ) → j < roles s → i < roles s → has (get_or w j 0) i ≡ has (takes s i) j
  taker_word j i l b = let z : 0 + j ≡ j = omega arith in rw z at (h.takers.same j i (omega (arith, few_roles)) b)

  -- whatever takes a role in is a role, and so is what is taken in
  pub taker_there : (j i : ℕ) → j < role_limit → has (get_or w j 0) i ≡ true → (j < roles s) × (i < roles s)
  taker_there j i l m =
      let z : 0 + j ≡ j = omega arith in
      let n : has (get_or w (0 + j) 0) i ≡ true = rw z m in
      let b = h.takers.below j i l n in
      (has_below (roles s) (takes s i) j ((accepted_facts s ok).row i b).takes_below (sym (h.takers.same j i l b) ∙ n), b)

  pub column_means : (p : ℕ) → p < principal_limit → Column (roles s) (current w) (get_or w (holders_at + p) 0) (λ r. has (meaning s r) p)
  column_means p l = record {
    starts = λ i b m. (meaning_closed s).own i p b (sym (member_word p i l b) ∙ m);
    closed = λ j i b c q m. (meaning_closed s).taken i j p c b (sym (taker_word j i b c) ∙ m) q;
    least = λ H f g i b m. meaning_least s (λ r q. q ≡ p → H r ≡ true) (record {
      own = λ r q k o e. f r k (member_word p r l k ∙ rw e at o);
      taken = λ r j q k c t y e. g j r c k (y e) (taker_word j r c k ∙ t);
    }) i p m refl;
  }

-- a column is by the words that it is by, and of the places that it is of
column_kept : (n : ℕ) (f g : ℕ → ℕ) (start start₁ : ℕ) (P Q : ℕ → Bool) → ((j : ℕ) → j < n → g j ≡ f j) → start₁ ≡ start → ((i : ℕ) → i < n → Q i ≡ P i) → Column n f start P → Column n g start₁ Q
column_kept n f g start start₁ P Q e s q h = record {
  starts = λ i l m. q i l ∙ h.starts i l (rw s at m);
  closed = λ j i l b m t. q i b ∙ h.closed j i l b (sym (q j l) ∙ m) (rw (e j l) at t);
  least = λ H a b i l m. h.least H (λ k c o. a k c (rw s o)) (λ j k c d o t. b j k c d o (rw (e j c) t)) i l (sym (q i l) ∙ m);
}

-- where the sets are right and no word is touched
pub tracked_live : (s atoms w : List ℕ) → Live s atoms → Indexed s (roles s) w → Untouched w → Known (current w) w (get_or w known_at 0) → Tracked s atoms w
unfolding Few atom_set
tracked_live s atoms w live h z known = record {
  fixed_live = fixed_of s atoms live;
  mirrored = record { accepted = live.accepted; indexed = h; few_moved = λ p m. in_none p (rw z.none_moved at m) };
  small = λ r l p m. meaning_small s live.accepted r l p (sym (right r p l) ∙ m);
  column = λ p l. column_kept (roles s) (current w) (before w) _ _ (λ r. has (meaning s r) p) (places atoms p) (λ j b. untouched_now w z j) (untouched_now w z (holders_at + p)) (λ i b. right i p b)
      (column_means s w live.accepted h p l);
  known = known_kept (current w) (before w) w w _ _ known (λ j m. (m, λ k l. untouched_now w z k)) (λ j l. refl);
}
  where
    right : (r p : ℕ) → r < roles s → has (get_or atoms r 0) p ≡ has (meaning s r) p
    right r p l = ap (λ (x : ℕ). has x p) (live.sets (role r) l)

-- when a run begins
pub tracked_loaded : (s atoms w : List ℕ) → Live s atoms → Loaded s (roles s) w → Tracked s atoms w
tracked_loaded s atoms w live l = tracked_live s atoms w live l.indexed l.untouched (none_known (current w) w l.none_known)

-- when mutations have been made
pub tracked_after : (s t atoms w u : List ℕ) → Tracked s atoms w → Mirrored t u → Kept w u → SameFixed s t → Tracked t atoms u
tracked_after s t atoms w u h m g fixed = record {
  fixed_live = fixed_stays s t atoms h.fixed_live fixed m.accepted;
  mirrored = m;
  small = λ r l. h.small r (rw fixed.same_roles l);
  column = λ p l. rw (← fixed.same_roles) (column_kept (roles s) (before w) (before u) _ _ (places atoms p) (places atoms p) (λ j b. g.same_before j (omega (arith, few))) (g.same_before (holders_at + p) (omega arith)) (λ i b. refl)
      (h.column p l));
  known = known_kept (before w) (before u) w u _ _ h.known (λ j o. (ap (λ (x : ℕ). has x j) (sym (g.same_known known_at (omega arith) (omega arith))) ∙ o, λ k l. g.same_before k (omega arith)))
      (λ j l. g.same_known (above_at + j) (omega arith) (omega arith));
}
  where
    few : roles s ≤ role_limit
    few = (accepted_facts s h.fixed_live.accepted).roles_fit

-- a principal that is not sifted out has its places: whatever takes in one of its roles did so when the sets were last right
module _ (s atoms w u : List ℕ) (some : ℕ) (h : Tracked s atoms w) (g : Sifted atoms w u some) (p : ℕ) (small : p < principal_limit) (n : has some p ≡ false) where
  ok : Accepted s
  ok = h.mirrored.accepted

  few : roles s ≤ role_limit
  few = (accepted_facts s ok).roles_fit

  -- its column in the sets, by the words as they were, and in the meanings, by the words as they are
  old : Column (roles s) (before w) (before w (holders_at + p)) (places atoms p)
  old = h.column p small

  new : Column (roles s) (current w) (get_or w (holders_at + p) 0) (λ r. has (meaning s r) p)
  new = column_means s w ok h.mirrored.indexed p small

  same_start : before w (holders_at + p) ≡ get_or w (holders_at + p) 0
  same_start = g.holders p small n

  same_word : (j : ℕ) → j < roles s → places atoms p j ≡ true → before w j ≡ get_or w j 0
  same_word j l m = g.takers p j (omega (arith, few)) m n

  placed_means : (r : ℕ) → r < roles s → places atoms p r ≡ true → has (meaning s r) p ≡ true
  placed_means r l m = (both (places atoms p r) (has (meaning s r) p) (old.least (λ i. places atoms p i && has (meaning s i) p)
      (λ i b t. and_both _ _ (old.starts i b t) (new.starts i b (rw same_start at t)))
      (λ j i b c t o.
      let (q, v) = both (places atoms p j) (has (meaning s j) p) t in
      and_both _ _ (old.closed j i b c q o) (new.closed j i b c v (rw (same_word j b q) at o)))
      r l m)).1

  means_placed : (r : ℕ) → r < roles s → has (meaning s r) p ≡ true → places atoms p r ≡ true
  means_placed = new.least (places atoms p) (λ i b t. old.starts i b (rw same_start t)) (λ j i b c t o. old.closed j i b c t (rw (same_word j b t) o))

-- the sets are right but for those
pub fresh_sifted : (s atoms w u : List ℕ) (some : ℕ) → Tracked s atoms w → Sifted atoms w u some → Fresh s atoms some
unfolding Fresh Few
fresh_sifted s atoms w u some h g r p l n = go (dec_lt p principal_limit)
  where
    go : Dec (p < principal_limit) → has (get_or atoms r 0) p ≡ has (meaning s r) p
    go (yes b) = same_truth _ _ (placed_means s atoms w u some h g p b n r l) (means_placed s atoms w u some h g p b n r l)
    go (no d) = not_in _ p (λ m. d (h.small r l p m)) ∙ sym (not_in _ p (λ m. d (meaning_small s h.mirrored.accepted r l p m)))

-- a policy t that differs from s in row r only
module _ (s t w u : List ℕ) (r x : ℕ) (present : Bool) (h : Mirrored s w) (ok : Accepted t) (fixed : SameFixed s t) (others : (i : ℕ) → (i ≡ r → ⊥) → Agree s t i) (r-there : r < roles s) where
  few_there : roles s ≤ role_limit
  few_there = (accepted_facts s h.accepted).roles_fit

  -- a member comes or goes
  pub mirrored_member : x < principal_limit → members t r ≡ placed present (members s r) x → takes t r ≡ takes s r → Turned (holders_at + x) r present w u → Mirrored t u
  mirrored_member l own taken g = record {
    accepted = ok;
    indexed = rw (← fixed.same_roles) (record {
      long = g.kept.long ∙ h.indexed.long;
      takers = transposed_kept (takes s) 0 role_limit (roles s) w u h.indexed.takers (takes t) (λ i j b. ap (λ (y : ℕ). has y j) (alike i (ℕ_discrete i r)))
          (λ j b. g.others (0 + j) (omega arith) (λ e. omega arith));
      holders = transposed_turned (members s) holders_at principal_limit (roles s) w u h.indexed.holders (members t) r x present r-there l (omega arith) (λ i b d. sym (others i d).same_members) own g;
    });
    few_moved = g.kept.few_moved h.few_moved;
  }
    where
      alike : (i : ℕ) → Dec (i ≡ r) → takes t i ≡ takes s i
      alike i (yes e) = rw e taken
      alike i (no n) = sym (others i n).same_takes

  -- a taken role comes or goes
  pub mirrored_taken : x < roles s → takes t r ≡ placed present (takes s r) x → members t r ≡ members s r → Turned x r present w u → Mirrored t u
  mirrored_taken l own held g = record {
    accepted = ok;
    indexed = rw (← fixed.same_roles) (record {
      long = g.kept.long ∙ h.indexed.long;
      takers = let z : 0 + x ≡ x = omega arith in
          transposed_turned (takes s) 0 role_limit (roles s) w u h.indexed.takers (takes t) r x present r-there (omega (arith, few_there)) (omega arith) (λ i b d. sym (others i d).same_takes) own (rw z g);
      holders = transposed_kept (members s) holders_at principal_limit (roles s) w u h.indexed.holders (members t) (λ i j b. ap (λ (y : ℕ). has y j) (alike i (ℕ_discrete i r)))
          (λ j b. g.others (holders_at + j) (omega arith) (λ e. omega (arith, few_there)));
    });
    few_moved = g.kept.few_moved h.few_moved;
  }
    where
      alike : (i : ℕ) → Dec (i ≡ r) → members t i ≡ members s i
      alike i (yes e) = rw e held
      alike i (no n) = sym (others i n).same_members

-- by kind
pub mirrored_mutated : (s w u : List ℕ) (k : Kind) (r x : ℕ) → Mirrored s w → r < roles s → x < operand_count s k → Accepted (mutate s k r x) → Noted k r x w u → Mirrored (mutate s k r x) u
unfolding placed
mirrored_mutated s w u addMember r x h l b ok g =
    let (m, t) = mutate_row s addMember r x h.accepted l b in
    mirrored_member s (mutate s addMember r x) w u r x true h ok (mutate_fixed s addMember r x) (mutate_other s addMember r x) l (omega (arith, (accepted_facts s h.accepted).principals_fit)) m t g
mirrored_mutated s w u deleteMember r x h l b ok g =
    let (m, t) = mutate_row s deleteMember r x h.accepted l b in
    mirrored_member s (mutate s deleteMember r x) w u r x false h ok (mutate_fixed s deleteMember r x) (mutate_other s deleteMember r x) l (omega (arith, (accepted_facts s h.accepted).principals_fit)) m t g
mirrored_mutated s w u addTaken r x h l b ok g =
    let (m, t) = mutate_row s addTaken r x h.accepted l b in
    mirrored_taken s (mutate s addTaken r x) w u r x true h ok (mutate_fixed s addTaken r x) (mutate_other s addTaken r x) l b t m g
mirrored_mutated s w u deleteTaken r x h l b ok g =
    let (m, t) = mutate_row s deleteTaken r x h.accepted l b in
    mirrored_taken s (mutate s deleteTaken r x) w u r x false h ok (mutate_fixed s deleteTaken r x) (mutate_other s deleteTaken r x) l b t m g
