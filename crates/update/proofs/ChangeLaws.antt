-- What carrying out an update gives, from its parts, and that an update and a list that stand under one policy do under another.
use mathlib.Core.Path.{◌≡◌, refl, sym, ◌∙◌}
use Prim.Native.Nat.{ℕ, zero, suc, ◌+◌, ◌-◌, ◌*◌, ◌<◌, ◌≤◌}
use native.Mathlib.Omega.{arith}
use mathlib.Core.List.{List}
use mathlib.Core.Bool.{Bool, true, false, not, ◌&&◌, ◌||◌, true≢false}
use lib.Dec.{eqb}
use lib.Bits.{bit_or}
use lib.ListN.{length, get_or}
use native.Mathlib.Decide.{dec_lt}
use borrow.Author.Tests.{eq-eqb, ne_eqb, eqb-true, not-true, not-false}
use Rattle.model.specs.Limits.{list_limit}
use Rattle.model.specs.Sets.{within}
use Rattle.model.specs.Policy.{roles, SameFixed}
use Rattle.model.specs.Syntax.{Query}
use Rattle.model.specs.Program.{got, read_many, read_query}
use Rattle.model.specs.Atoms.{holds}
use Rattle.model.specs.Run.{broken}
use Rattle.model.proofs.Reading.{query_fits}
use Rattle.model.proofs.Standing.{many_none, many_more, query_parts, queries_end}
use Rattle.tracked.specs.Live.{atom_words, Live}
use Rattle.tracked.specs.Index.{moved_at, rewired_at, Mirrored, Sifted, Tracked}
use Rattle.settling.specs.Settle.{Settled}
use Rattle.update.specs.Mutations.{Mutable, Mutated}
use Rattle.update.specs.Listed.{Listing, HeldAt}
use Rattle.update.specs.Change.{is_awaited, Judged, CarriedOut}
use Rattle.tracked.proofs.AtomLaws.{live_holds}
use Rattle.settling.proofs.SettleLaws.{tracked_long, tracked_atoms, tracked_few, settling_start, settling_atoms, settling_done, settled_already}
use Rattle.tracked.proofs.TrackedLaws.{tracked_after}
use Rattle.update.proofs.MutationLaws.{granted_stays}
use Rattle.update.proofs.ListedLaws.{broken_bits}

-- a query holds under two policies alike, where the words hold the sets of both; so none breaks
module _ (s t w : List ℕ) (old : Live s w) (new : Live t w) (p : List ℕ) (same : roles s ≡ roles t) where
  none_broken : (n at : ℕ) {qs : List Query} {end : ℕ} → read_many (read_query p (roles s)) n at ≡ got qs end → broken qs s t ≡ false
  unfolding broken
  none_broken zero at h = let e = many_none (read_query p (roles s)) zero at h (omega arith) in rw e.0 refl
  none_broken (suc n) at h =
      let v = many_more (read_query p (roles s)) (suc n) at h (omega arith) in
      let k : suc n - 1 ≡ n = omega arith in
      let fits = query_fits p (roles s) at v.head_read in
      let one = live_holds s w old v.head fits in
      let two = live_holds t w new v.head (rw (← same) fits) in
      rw (v.is, sym one ∙ two, none_broken n v.mid (rw k at v.tail_read)) (never (holds t v.head))
    where
      never : (b : Bool) → ((b && not b) || false) ≡ false
      never true = refl
      never false = refl

-- what is tracked takes the same room all along
module _ (s t w u i j : List ℕ) (h : Tracked s w i) (g : Tracked t u j) where
  pub same_atoms : length u ≡ length w
  same_atoms = tracked_atoms t u j g ∙ sym (tracked_atoms s w i h)

  pub same_index : length j ≡ length i
  same_index = tracked_long t u j g ∙ sym (tracked_long s w i h)

-- what is tracked of a policy, and the sets are right where something is listed
pub record Prepared (count : ℕ) (s atoms w : List ℕ) : Type 0 where
  pub tracked : Tracked s atoms w
  pub settled : 0 < count → Settled s atoms w

-- what is tracked when the mutations have been made
pub made_tracked : (p s t w i i₁ : List ℕ) (at count : ℕ) → Mutated p s at i t i₁ → Prepared count s w i → Tracked t w i₁
made_tracked p s t w i i₁ at count made h = tracked_after s t w i i₁ h.tracked made.mirrored made.kept made.same_fixed

-- what the code's tests say of whether the sets are awaited, and what follows where they are or are not
module _ (count : ℕ) (i : List ℕ) where
  abbrev touched : ℕ
  touched = bit_or (get_or i moved_at 0) (get_or i rewired_at 0)

  pub awaited_none : count ≡ 0 → false ≡ is_awaited count i
  unfolding is_awaited
  awaited_none z = rw (eq-eqb _ _ z)

  pub awaited_some : (x : ℕ) → (count ≡ 0 → ⊥) → x ≡ touched → not (eqb x 0) ≡ is_awaited count i
  unfolding is_awaited
  awaited_some x l e = rw (ne_eqb _ _ l, e)

  module _ (r : Bool) (e : r ≡ is_awaited count i) where
    pub awaited_listed : r ≡ true → count ≡ 0 → ⊥
    unfolding is_awaited
    awaited_listed h z = true≢false (sym h ∙ e ∙ rw (eq-eqb _ _ z))

    unawaited : r ≡ false → 0 < count → touched ≡ 0
    unfolding is_awaited
    unawaited h l = eqb-true _ _ (not-false _ (rw (ne_eqb count 0 (omega arith)) at (sym e ∙ h)))

pub ruleset awaits = (awaited_none, awaited_some)

-- what is tracked when an update begins, with its sets up to date where something is listed
module _ (s w i : List ℕ) (count : ℕ) where
  pub prepared_settled : Settled s w i → Prepared count s w i
  prepared_settled h = record { tracked = h.tracked; settled = λ l. h }

  pub prepared_still : Tracked s w i → (r : Bool) → r ≡ is_awaited count i → r ≡ false → Prepared count s w i
  prepared_still h r e z = record { tracked = h; settled = λ l. settled_already s w i h _ refl (unawaited count i r e z l) }

  module _ (h : Prepared count s w i) where
    pub prepared_mirrored : Mirrored s i
    prepared_mirrored = h.tracked.mirrored

    -- nothing is listed, or the mutations changed nothing
    pub carried_still : (p t i₁ : List ℕ) (at listing : ℕ) (r : Bool) → r ≡ is_awaited count i₁ → r ≡ false → Mutated p s at i t i₁ → length t ≡ length s → CarriedOut p s at listing count t w i₁ false
    unfolding broken
    carried_still p t i₁ at listing b e z made long = record {
      tracked = tracked;
      same_fixed = made.same_fixed;
      same_length = long;
      made = made.made;
      judged = λ qs end r. by_count qs end r (dec_lt 0 count);
    }
      where
        tracked : Tracked t w i₁
        tracked = made_tracked p s t w i i₁ at count made h

        by_count : (qs : List Query) (end : ℕ) → read_many (read_query p (roles s)) count listing ≡ got qs end → Dec (0 < count) → false ≡ broken qs s t
        by_count qs end r (yes l) = sym (none_broken s t w (h.settled l).live (settled_already t w i₁ tracked _ refl (unawaited count i₁ b e z l)).live p made.same_fixed.same_roles count listing r)
        by_count qs end r (no l) = let e = many_none (read_query p (roles s)) count listing r (omega arith) in rw e.0 refl

    pub carried : (p t u i₁ i₂ : List ℕ) (at listing : ℕ) (b : Bool) → (count ≡ 0 → ⊥) → Mutated p s at i t i₁ → Judged p listing count t w u i₂ b → length t ≡ length s
        → CarriedOut p s at listing count t u i₂ b
    carried p t u i₁ i₂ at listing b some made j long = record {
      tracked = j.tracked;
      same_fixed = made.same_fixed;
      same_length = long;
      made = made.made;
      judged = j.judged s (h.settled (omega arith)).live made.same_fixed.same_roles;
    }

module _ (p : List ℕ) (listing count : ℕ) (t w : List ℕ) where
  module _ (i : List ℕ) where
    -- nobody's places changed: the sets are right as they are, so no query breaks
    pub judged_same : (i₀ : List ℕ) (some : ℕ) → Tracked t w i₀ → Sifted w i₀ i some → some ≡ 0 → Judged p listing count t w w i false
    judged_same i₀ some h g z =
        let settled = settling_done t w i some (settling_start t w i₀ i some h g) (omega arith) in
        record { tracked = settled.tracked; judged = λ s live same qs end r. sym (none_broken s t w live settled.live p same count listing r) }

  pub judged_so : (u i₁ : List ℕ) (before after : ℕ) (b : Bool) → Settled t u i₁ → HeldAt p listing count w before → HeldAt p listing count u after → b ≡ within before after
      → Judged p listing count t w u i₁ (not b)
  unfolding HeldAt
  judged_so u i₁ before after b new held now e = record {
    tracked = new.tracked;
    judged = λ s live same qs end r.
        let x = held s live qs end r in
        let y = now t new.live qs end (rw (← same) r) in
        sym (broken_bits s t qs ∙ rw (← x, ← y, ← e));
  }

pub settled_atoms : (s w i : List ℕ) → Settled s w i → length w ≡ atom_words
settled_atoms s w i h = h.live.long

pub ruleset judges = (settling_atoms, settled_atoms, judged_so)

pub ruleset judgings = (tracked_long, tracked_atoms, tracked_few, settling_start, judged_same)

pub update_there : (p s : List ℕ) (at : ℕ) → Mutable p s at → at + 2 ≤ length p
unfolding Mutable
update_there p s at h = h.inside

pub few_listed : (p s : List ℕ) (count at : ℕ) → Listing p s count at → count ≤ list_limit
unfolding Listing
few_listed p s count at h = h.few

pub bytes_there : (p s : List ℕ) (count at : ℕ) → Listing p s count at → (count ≡ 0 → ⊥) → at + 2 * count ≤ length p
unfolding Listing
bytes_there p s count at h l =
    let v = many_more (read_query p (roles s)) count at h.is_read (omega arith) in
    let e = queries_end p (roles s) count at h.is_read (omega (arith, (query_parts p (roles s) at v.head_read).inside)) in
    omega (arith, e.0, e.1)

pub ruleset carries = (tracked_long, prepared_mirrored, prepared_settled, prepared_still, update_there, made_tracked, carried_still, carried, awaited_listed, few_listed, bytes_there, not-true, not-false)

-- Where the update and the list of an accepted program stand, they do under every policy with the same fixed part.
module _ (p s t : List ℕ) (f : SameFixed s t) where
  pub mutable_stays : (at : ℕ) → Mutable p s at → Mutable p t at
  unfolding Mutable
  mutable_stays at h = record {
    mutations = h.mutations;
    end = h.end;
    inside = h.inside;
    is_read = rw (← f.same_principals, ← f.same_roles) h.is_read;
    granted = λ m i. granted_stays f (h.granted m i);
  }

  pub listing_stays : (count at : ℕ) → Listing p s count at → Listing p t count at
  unfolding Listing
  listing_stays count at h = record { queries = h.queries; end = h.end; is_read = rw (← f.same_roles) h.is_read; few = h.few }
