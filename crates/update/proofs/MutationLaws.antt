-- A law for each return of mutations.rt, and the loop: what is left to make of the policy as it is now is what the whole update makes of the first.
use Rattle.std.proofs.Common.{Result, Ok, Err}
use mathlib.Core.Path.{◌≡◌, refl, sym, ap, ◌∙◌}
use Prim.Native.Nat.{ℕ, ◌+◌, ◌-◌, ◌*◌, ◌<◌, ◌≤◌}
use mathlib.Core.List.{List, ◌∷◌, Memᴰ}
use mathlib.Core.Bool.{Bool, true, false, not, true≢false}
use native.Mathlib.Omega.{arith}
use native.Mathlib.Decide.{ℕ_discrete}
use mir.Val.{Fits}
use mir.Syntax.{w8}
use lib.Dec.{eqb}
use lib.ListN.{length, get_or}
use borrow.Author.Tests.{eqb-true}
use Rattle.model.specs.Limits.{principal_limit, role_limit}
use Rattle.model.specs.Sets.{has, with}
use Rattle.model.specs.Bytes.{byte}
use Rattle.model.specs.Policy.{principals, roles, HasRow, row_at, members, takes, SameFixed}
use Rattle.model.specs.Mutation.{addMember, deleteMember, addTaken, deleteTaken, operand_count, put_members, put_takes, mutate, Mutation}
use Rattle.model.specs.Mutation as model
use Rattle.model.specs.Fits.{Each}
use Rattle.model.specs.Program.{got, read_many, read_mutation}
use Rattle.model.specs.Run.{mutate_all}
use Rattle.model.proofs.Accepted.{Facts, accepted_facts}
use Rattle.model.proofs.Bytes.{put_word}
use Rattle.model.proofs.Rows.{accepted_row}
use Rattle.model.proofs.Sets.{has_with_same, same_sets}
use Rattle.model.proofs.Fixed.{fixed_refl, fixed_trans}
use Rattle.model.proofs.Mutation.{mutate_fixed, mutate_accepted, allowed_fixed}
use Rattle.model.proofs.FlowParts.{Mutates, mutates_role, mutates_operand}
use Rattle.model.proofs.Standing.{Cons, MutationParts, same_value, many_none, many_more, mutation_parts}
use Rattle.program.specs.declared.codes.Kind.{Kind}
use Rattle.program.specs.declared.codes.Kind.TheVariants.{AddMember, DeleteMember, AddTaken, DeleteTaken}
use Rattle.program.specs.Codes.{kind_of, model_kind}
use Rattle.gathered.proofs.PositionLaws.{mutation_known, mutation_kind}
use Rattle.tracked.specs.Index.{holders_at, index_words, Mirrored, placed, turns, Kept, Turned, Noted, Made, member_kind, taken_kind}
use Rattle.update.specs.Mutations.{Granted, MutableOne, Mutable, MutatedOne, Mutated}
use Rattle.tracked.proofs.IndexLaws.{placed_same, placed_other, placed_fits}
use Rattle.tracked.proofs.KeepLaws.{kept_same, kept_trans}
use Rattle.tracked.proofs.TrackedLaws.{mirrored_mutated}
use Rattle.program.specs.declared.codes.UnknownCode.{UnknownCode}

-- what a row is asked for, by the kind of mutation
module _ (s w : List ℕ) (r x : ℕ) (h : Mirrored s w) where
  facts : Facts s
  facts = accepted_facts s h.accepted

  pub row_there : r < roles s → HasRow s r
  row_there l = accepted_row s h.accepted (roles s) r refl l

  pub role_few : r < roles s → r < role_limit
  role_few l = omega (arith, facts.roles_fit)

  pub index_long : length w ≡ index_words
  index_long = h.indexed.long

  pub member_below : (present : Bool) → x < operand_count s (member_kind present) → x < principal_limit
  member_below true l = omega (arith, facts.principals_fit)
  member_below false l = omega (arith, facts.principals_fit)

  pub member_small : (present : Bool) → x < operand_count s (member_kind present) → x < role_limit
  member_small present l = omega (arith, member_below present l)

  pub taken_below : (present : Bool) → x < operand_count s (taken_kind present) → x < role_limit
  taken_below true l = omega (arith, facts.roles_fit)
  taken_below false l = omega (arith, facts.roles_fit)

-- where a word does not turn, neither does the set that it has the other way round
turns_alike : (present : Bool) (a b i j : ℕ) → false ≡ turns present a i → has a i ≡ has b j → placed present b j ≡ b
unfolding turns
turns_alike present a b i j e same = same_sets _ _ (λ l m. sym (alike l (ℕ_discrete l j)) ∙ m) (λ l m. alike l (ℕ_discrete l j) ∙ m)
  where
    a_is : has a i ≡ present
    a_is = ap (λ (y : ℕ). has y i) (sym (not_turned (eqb (placed present a i) a) refl e)) ∙ placed_same a i present
      where
        not_turned : (t : Bool) → eqb (placed present a i) a ≡ t → false ≡ not t → placed present a i ≡ a
        not_turned true q z = eqb-true _ _ q
        not_turned false q z = absurd (true≢false (sym z))

    alike : (l : ℕ) → Dec (l ≡ j) → has (placed present b j) l ≡ has b l
    alike l (yes q) = rw q (placed_same b j present ∙ sym a_is ∙ same)
    alike l (no d) = placed_other b j present l d

-- one mutation of row r, of its members or of what it takes in: m is the set that stands there, v what is written; and where the
-- word does not turn nothing is
module _ (field : List ℕ → ℕ → ℕ) (put : List ℕ → ℕ → ℕ → List ℕ) (k : model.Kind) (s w u : List ℕ) (r x : ℕ) (present : Bool)
    (mutates : mutate s k r x ≡ put s r (placed present (field s r) x)) (noted : Noted k r x w u) where
  written : (t : List ℕ) (m v : ℕ) → m ≡ field s r → v ≡ placed present m x → t ≡ put s r v → Made k r x s w t u
  written t m v e f h = record { made = (rw (f, e) at h) ∙ sym mutates; noted = noted }

  unwritten : (word : ℕ) (b : Bool) → b ≡ turns present word r → b ≡ false → has word r ≡ has (field s r) x → put s r (field s r) ≡ s → Made k r x s w s u
  unwritten word b e z same back = record { made = sym (mutates ∙ rw (turns_alike present word (field s r) r x (sym z ∙ e) same) back); noted = noted }

module _ (s w u : List ℕ) (r x : ℕ) where
  members_put : (present : Bool) → mutate s (member_kind present) r x ≡ put_members s r (placed present (members s r) x)
  unfolding mutate placed
  members_put true = refl
  members_put false = refl

  member_noted : (present : Bool) → Turned (holders_at + x) r present w u → Noted (member_kind present) r x w u
  member_noted true g = g
  member_noted false g = g

  takes_put : (present : Bool) → mutate s (taken_kind present) r x ≡ put_takes s r (placed present (takes s r) x)
  unfolding mutate placed
  takes_put true = refl
  takes_put false = refl

  taken_noted : (present : Bool) → Turned x r present w u → Noted (taken_kind present) r x w u
  taken_noted true g = g
  taken_noted false g = g

  module _ (present : Bool) where
    -- the members m, wider as n
    pub member_written : (t : List ℕ) (m n v : ℕ) → n ≡ m → m ≡ members s r → v ≡ placed present n x → t ≡ put_members s r v → Turned (holders_at + x) r present w u → Made (member_kind present) r x s w t u
    member_written t m n v z e f h g = written members put_members (member_kind present) s w u r x present (members_put present) (member_noted present g) t n v (z ∙ e) f h

    pub taken_written : (t : List ℕ) (m v : ℕ) → m ≡ takes s r → v ≡ placed present m x → t ≡ put_takes s r v → Turned x r present w u → Made (taken_kind present) r x s w t u
    taken_written t m v e f h g = written takes put_takes (taken_kind present) s w u r x present (takes_put present) (taken_noted present g) t m v e f h

    module _ (b : Bool) (h : Mirrored s w) (l : r < roles s) (low : (i : ℕ) → Fits w8 (get_or s i 0)) where
      pub member_same : b ≡ turns present (get_or w (holders_at + x) 0) r → b ≡ false → x < principal_limit → Turned (holders_at + x) r present w u → Made (member_kind present) r x s w s u
      unfolding put_members members
      member_same e z few g = unwritten members put_members (member_kind present) s w u r x present (members_put present) (member_noted present g) (get_or w (holders_at + x) 0) b e z
          (h.indexed.holders.same x r few l) (put_word s (row_at s r + 10) 4 (λ i. (low i).fits))

      pub taken_same : b ≡ turns present (get_or w x 0) r → b ≡ false → x < role_limit → Turned x r present w u → Made (taken_kind present) r x s w s u
      unfolding put_takes takes
      taken_same e z few g = let first : 0 + x ≡ x = omega arith in
          unwritten takes put_takes (taken_kind present) s w u r x present (takes_put present) (taken_noted present g) (get_or w x 0) b e z
          (rw first at (h.indexed.takers.same x r few l)) (put_word s (row_at s r + 14) 8 (λ i. (low i).fits))

pub ruleset ones = (row_there, role_few, index_long, member_below, member_small, taken_below, placed_fits, member_written, member_same, taken_written, taken_same)

-- the kind decides which
module _ (k : Kind) where
  pub is_add_member : k ≡ AddMember → model_kind k ≡ addMember
  is_add_member e = rw e refl

  pub is_delete_member : k ≡ DeleteMember → model_kind k ≡ deleteMember
  is_delete_member e = rw e refl

  pub is_add_taken : k ≡ AddTaken → model_kind k ≡ addTaken
  is_add_taken e = rw e refl

  pub is_delete_taken : k ≡ DeleteTaken → model_kind k ≡ deleteTaken
  is_delete_taken e = rw e refl

  module _ (s : List ℕ) (r x : ℕ) (m : model.Kind) (e : model_kind k ≡ m) where
    pub operand_so : x < operand_count s (model_kind k) → x < operand_count s m
    operand_so l = rw e at l

    pub made_so : (w t u : List ℕ) → Made m r x s w t u → Made (model_kind k) r x s w t u
    made_so w t u h = rw e h

pub ruleset kinds = (is_add_member, is_delete_member, is_add_taken, is_delete_taken, operand_so, made_so)

-- what the policy allows depends on the fixed part only
pub granted_stays : {s t : List ℕ} {m : Mutation} → SameFixed s t → Granted s m → Granted t m
granted_stays {s} {t} {m} f g =
    let h : Mutates s (with 0 m.role) m = record { role_below = g.role_below; operand_below = g.operand_below; is_allowed = g.is_allowed; named = has_with_same 0 m.role } in
    record {
      role_below = mutates_role h f;
      operand_below = mutates_operand h f;
      is_allowed = sym (allowed_fixed f m.kind m.role m.operand g.role_below g.operand_below) ∙ g.is_allowed;
    }

noted_kept : (k : model.Kind) (r x : ℕ) (w u : List ℕ) → Noted k r x w u → Kept w u
noted_kept addMember r x w u h = h.kept
noted_kept deleteMember r x w u h = h.kept
noted_kept addTaken r x w u h = h.kept
noted_kept deleteTaken r x w u h = h.kept

-- one mutation that was read: o is what its kind's byte stands for
module _ (p s : List ℕ) (at : ℕ) (h : MutableOne p s at) (o : (Result Kind UnknownCode)) (d : o ≡ kind_of (byte p at)) where
  parts : MutationParts p (roles s) at h.mutation h.end
  parts = mutation_parts p (principals s) (roles s) at h.is_read

  pub one_unknown : (w t u : List ℕ) → o ≡ (Err (record {})) → MutatedOne p s at w t u
  one_unknown w t u n = absurd (mutation_known p (principals s) (roles s) at h.is_read o d n)

  -- its role and its operand, wider as r and x
  module _ (r : ℕ) (e : r ≡ byte p (at + 1)) where
    role_is : r ≡ h.mutation.role
    role_is = e ∙ sym parts.role_byte

    pub one_role : r < roles s
    one_role = rw role_is h.granted.role_below

    module _ (k : Kind) (j : o ≡ Ok k) (x : ℕ) (f : x ≡ byte p (at + 2)) where
      operand_is : x ≡ h.mutation.operand
      operand_is = f ∙ sym parts.operand_byte

      kind_is : model_kind k ≡ h.mutation.kind
      kind_is = sym (mutation_kind p (principals s) (roles s) at h.is_read o d k j)

      pub one_operand : x < operand_count s (model_kind k)
      one_operand = rw (operand_is, kind_is) h.granted.operand_below

      pub one_made : (w t u : List ℕ) → Mirrored s w → Made (model_kind k) r x s w t u → MutatedOne p s at w t u
      one_made w t u ok g =
          let m = h.mutation in
          let v : Made m.kind m.role m.operand s w t u = rw (kind_is, role_is, operand_is) at g in
          record {
            mirrored = rw v.made (mirrored_mutated s w u m.kind m.role m.operand ok h.granted.role_below h.granted.operand_below
                (mutate_accepted s m.kind m.role m.operand ok.accepted h.granted.role_below h.granted.operand_below h.granted.is_allowed) v.noted);
            kept = noted_kept m.kind m.role m.operand w u v.noted;
            same_fixed = rw v.made (mutate_fixed s m.kind m.role m.operand);
            made = λ n end l. rw (same_value (sym h.is_read ∙ l)).0 v.made;
          }

pub ruleset at_laws = (one_unknown, one_role, one_operand, one_made)

-- the mutations of the update at a position that are left after i of its count, from the policy t as it is now, with the words u
pub record Mutating (p s : List ℕ) (at : ℕ) (w t u : List ℕ) (count next i : ℕ) : Type 0 where
  pub all : List Mutation
  pub end : ℕ
  pub all_read : read_many (read_mutation p (principals s) (roles s)) (byte p (at + 1)) (at + 2) ≡ got all end
  pub rest : List Mutation
  pub stop : ℕ
  pub rest_read : read_many (read_mutation p (principals s) (roles s)) (count - i) next ≡ got rest stop
  pub granted : Each (Granted s) rest
  pub mirrored : Mirrored t u
  pub kept : Kept w u
  pub same_fixed : SameFixed s t
  pub same_end : mutate_all t rest ≡ mutate_all s all

-- what is in a list that was read
head_in : {m : Mutation} {xs ms : List Mutation} → xs ≡ m ∷ ms → Memᴰ m xs
head_in e = rw e (Memᴰ.head refl)

tail_in : {m n : Mutation} {xs ms : List Mutation} → xs ≡ m ∷ ms → Memᴰ n ms → Memᴰ n xs
tail_in e i = rw e (Memᴰ.tail i)

module _ (p s : List ℕ) (at : ℕ) (w : List ℕ) where
  pub mutating_start : (count : ℕ) → Mirrored s w → Mutable p s at → count ≡ byte p (at + 1) → Mutating p s at w s w count (at + 2 + 3 * 0) 0
  unfolding Mutable
  mutating_start count ok h e =
      let all_left : count - 0 ≡ byte p (at + 1) = omega arith in
      let front : at + 2 + 3 * 0 ≡ at + 2 = omega arith in
      record {
        all = h.mutations;
        end = h.end;
        all_read = h.is_read;
        rest = h.mutations;
        stop = h.end;
        rest_read = rw (all_left, front) h.is_read;
        granted = h.granted;
        mirrored = ok;
        kept = kept_same w;
        same_fixed = fixed_refl s;
        same_end = refl;
      }

  module _ (t u : List ℕ) (count i : ℕ) (inv : Mutating p s at w t u count (at + 2 + 3 * i) i) where
    abbrev next : ℕ
    next = at + 2 + 3 * i

    pub mutating_mirrored : Mirrored t u
    mutating_mirrored = inv.mirrored

    -- the next one, whose number is wider as x
    module _ (some : i < count) (x : ℕ) (e : x ≡ i) where
      first : Cons (read_mutation p (principals s) (roles s)) (count - i) next inv.rest inv.stop
      first = many_more (read_mutation p (principals s) (roles s)) (count - i) next inv.rest_read (omega arith)

      first_parts : MutationParts p (roles s) next first.head first.mid
      first_parts = mutation_parts p (principals s) (roles s) next first.head_read

      pub mutating_inside : at + 2 + 3 * x + 3 ≤ length p
      mutating_inside = rw e first_parts.inside

      pub mutating_one : MutableOne p t (at + 2 + 3 * x)
      mutating_one =
          let f = inv.same_fixed in
          rw e
          (record {
            mutation = first.head;
            end = first.mid;
            is_read = rw (← f.same_principals, ← f.same_roles) first.head_read;
            granted = granted_stays f (inv.granted first.head (head_in first.is));
          })

      pub mutating_more : (t₁ u₁ : List ℕ) → MutatedOne p t (at + 2 + 3 * x) u t₁ u₁ → Mutating p s at w t₁ u₁ count (at + 2 + 3 * (i + 1)) (i + 1)
      unfolding mutate_all
      mutating_more t₁ u₁ g =
          let f = inv.same_fixed in
          let h : MutatedOne p t next u t₁ u₁ = rw e at g in
          let here = h.made first.head first.mid (rw (← f.same_principals, ← f.same_roles) first.head_read) in
          let k : count - i - 1 ≡ count - (i + 1) = omega arith in
          let there : at + 2 + 3 * (i + 1) ≡ first.mid = omega (arith, first_parts.ends) in
          record {
            all = inv.all;
            end = inv.end;
            all_read = inv.all_read;
            rest = first.tail;
            stop = inv.stop;
            rest_read = rw (there, ← k) first.tail_read;
            granted = λ m i. inv.granted m (tail_in first.is i);
            mirrored = h.mirrored;
            kept = kept_trans w u u₁ inv.kept h.kept;
            same_fixed = fixed_trans f h.same_fixed;
            same_end = rw here (rw first.is at inv.same_end);
          }

    pub mutating_done : count ≤ i → Mutated p s at w t u
    unfolding mutate_all
    mutating_done none =
        let v = many_none (read_mutation p (principals s) (roles s)) (count - i) next inv.rest_read (omega arith) in
        record {
          mirrored = inv.mirrored;
          kept = inv.kept;
          same_fixed = inv.same_fixed;
          made = λ ms end h. rw (same_value (sym inv.all_read ∙ h)).0 (rw v.0 at inv.same_end);
        }

pub ruleset mutatings = (mutating_start, mutating_mirrored, mutating_inside, mutating_one, mutating_more, mutating_done)
