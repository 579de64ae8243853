-- A mutation puts bytes into one row's members or takes: all else stays, and what it puts there is allowed.
use Prim.Native.Nat.{ℕ, ◌+◌, ◌^◌, ◌<◌, ◌≤◌}
use mathlib.Core.Path.{◌≡◌, refl, sym, ◌∙◌}
use mathlib.Core.Logic.{inl, inr, ⊎_elim}
use mathlib.Core.List.{List}
use mathlib.Core.Bool.{Bool, true}
use native.Mathlib.Omega.{arith}
use native.Mathlib.Nat.{lt_of_lt_of_le, lt_of_le_of_lt, lt_trans}
use native.Mathlib.Decide.{ℕ_discrete}
use lib.ListN.{length}
use lib.Pow.{pow_mono}
use Rattle.model.specs.Limits.{head_bytes, field_bytes}
use Rattle.model.specs.Sets.{has, with, without}
use Rattle.model.specs.Bytes.{byte, word, put}
use Rattle.model.specs.Policy.{policy_head, has_mark, version, principals, roles, row_at, viewers, trusters, members, takes, may_take, may_hold, Accepted, SameFixed, Agree}
use Rattle.model.specs.Mutation.{Kind, addMember, deleteMember, addTaken, deleteTaken, operand_count, allowed, put_members, put_takes, mutate}
use Rattle.model.proofs.Accepted.{RowFacts, Facts, accepted_head, accepted_facts, facts_accepted}
use Rattle.model.proofs.Rows.{fields_fit, row_inside, row_there, rows_apart, head_apart, rows_same, bytes_same}
use Rattle.model.proofs.Bytes.{length_put, byte_put_other, word_bytes, word_put_other, word_put, starts_put}
use Rattle.model.proofs.Fixed.{agree_sym, agree_trans, may_take_fixed, may_hold_fixed}
use Rattle.model.proofs.Sets.{has_below, within_has, has_within, with_has, with_below, without_has, without_le}
use Rattle.model.proofs.Truth.{both}

-- t is s but for bytes of row r's members and takes, its fields from offset 10 on
record Regranted (s t : List ℕ) (r : ℕ) : Type 0 where
  long : length t ≡ length s
  mark : has_mark t ≡ has_mark s
  elsewhere : (p : ℕ) → ((q : ℕ) → 10 ≤ q → q < field_bytes → p ≡ row_at s r + q → ⊥) → byte s p ≡ byte t p

-- what is put behind the head leaves its mark
put_mark : (s : List ℕ) (at n v : ℕ) → head_bytes ≤ at → has_mark (put s at n v) ≡ has_mark s
unfolding has_mark
put_mark s at n v l = starts_put s policy_head at n v (omega arith)

put_regrants : (s : List ℕ) (r o n v : ℕ) → 10 ≤ o → o + n ≤ field_bytes → Regranted s (put s (row_at s r + o) n v) r
put_regrants s r o n v h k = record {
  long = length_put s (row_at s r + o) n v;
  mark = put_mark s (row_at s r + o) n v (omega (arith, head_apart s r));
  elsewhere = λ p out. sym (byte_put_other s (row_at s r + o) n v p (λ j l e. out (o + j) (omega arith) (omega arith) (omega arith)));
}

mutate_regrants : (s : List ℕ) (k : Kind) (r x : ℕ) → Regranted s (mutate s k r x) r
unfolding mutate put_members put_takes
mutate_regrants s addMember r x = put_regrants s r 10 4 _ (omega arith) (omega arith)
mutate_regrants s deleteMember r x = put_regrants s r 10 4 _ (omega arith) (omega arith)
mutate_regrants s addTaken r x = put_regrants s r 14 8 _ (omega arith) (omega arith)
mutate_regrants s deleteTaken r x = put_regrants s r 14 8 _ (omega arith) (omega arith)

module _ (s t : List ℕ) (r : ℕ) (g : Regranted s t r) where
  head_kept : (p : ℕ) → p < head_bytes → byte s p ≡ byte t p
  head_kept p l = g.elsewhere p (λ q h k e. omega (arith, head_apart s r))

  version_kept : version s ≡ version t
  version_kept = word_bytes s t 3 2 (λ j l. head_kept (3 + j) (omega arith))

  -- a byte of row i, if it is not of row r's members and takes
  byte_kept : (i o p : ℕ) → o < field_bytes → (i ≡ r → o < 10) → p ≡ row_at s i + o → byte s p ≡ byte t p
  byte_kept i o p l d e = g.elsewhere p (λ q h k f.
      let (same, off) = rows_apart s i r o q (omega (arith, fields_fit s)) (omega (arith, fields_fit s)) (omega arith) in
      omega (arith, d same))

  word_kept : (i o n : ℕ) → o + n ≤ field_bytes → (i ≡ r → o + n ≤ 10) → word s (row_at s i + o) n ≡ word t (row_at t i + o) n
  word_kept i o n l d = rw (← rows_same s t version_kept i)
      (word_bytes s t (row_at s i + o) n (λ j k. byte_kept i (o + j) (row_at s i + o + j) (omega arith) (λ e. omega (arith, d e)) (omega arith)))

  regranted_fixed : SameFixed s t
  unfolding viewers trusters
  regranted_fixed = record {
    same_version = version_kept;
    same_principals = head_kept 5 (omega arith);
    same_roles = head_kept 6 (omega arith);
    same_owner = λ i l. rw (← rows_same s t version_kept i) (byte_kept i 0 (row_at s i) (omega arith) (λ e. omega arith) (omega arith));
    same_name = λ i l. rw (← rows_same s t version_kept i) (byte_kept i 1 (row_at s i + 1) (omega arith) (λ e. omega arith) (omega arith));
    same_viewers = λ i l. word_kept i 2 4 (omega arith) (λ e. omega arith);
    same_trusters = λ i l. word_kept i 6 4 (omega arith) (λ e. omega arith);
  }

  regranted_other : (i : ℕ) → (i ≡ r → ⊥) → Agree s t i
  unfolding members takes
  regranted_other i d = record {
    same_members = word_kept i 10 4 (omega arith) (λ e. absurd (d e));
    same_takes = word_kept i 14 8 (omega arith) (λ e. absurd (d e));
  }

pub length_mutate : (s : List ℕ) (k : Kind) (r x : ℕ) → length (mutate s k r x) ≡ length s
length_mutate s k r x = (mutate_regrants s k r x).long

pub mutate_fixed : (s : List ℕ) (k : Kind) (r x : ℕ) → SameFixed s (mutate s k r x)
mutate_fixed s k r x = regranted_fixed s (mutate s k r x) r (mutate_regrants s k r x)

-- a row that is not named ends unchanged
pub mutate_other : (s : List ℕ) (k : Kind) (r x i : ℕ) → (i ≡ r → ⊥) → Agree s (mutate s k r x) i
mutate_other s k r x i = regranted_other s (mutate s k r x) r (mutate_regrants s k r x) i

pub allowed_fixed : {a b : List ℕ} → SameFixed a b → (k : Kind) (r x : ℕ) → r < roles a → x < operand_count a k → allowed a k r x ≡ allowed b k r x
unfolding allowed
allowed_fixed f addMember r x h l = may_hold_fixed f r x h
allowed_fixed f deleteMember r x h l = refl
allowed_fixed f addTaken r x h l = may_take_fixed f r x h l
allowed_fixed f deleteTaken r x h l = refl

-- what the members and the takes of the named row become
abbrev pub members_after : List ℕ → Kind → ℕ → ℕ → ℕ
members_after s addMember r x = with (members s r) x
members_after s deleteMember r x = without (members s r) x
members_after s addTaken r x = members s r
members_after s deleteTaken r x = members s r

abbrev pub takes_after : List ℕ → Kind → ℕ → ℕ → ℕ
takes_after s addMember r x = takes s r
takes_after s deleteMember r x = takes s r
takes_after s addTaken r x = with (takes s r) x
takes_after s deleteTaken r x = without (takes s r) x

-- rows stand where they stood
put_rows : (s : List ℕ) (r o n v i : ℕ) → 10 ≤ o → o + n ≤ field_bytes → row_at (put s (row_at s r + o) n v) i ≡ row_at s i
put_rows s r o n v i h k = sym (rows_same s _ (version_kept s _ r (put_regrants s r o n v h k)) i)

module _ (s : List ℕ) (r v : ℕ) (ok : Accepted s) (l : r < roles s) where
  room : row_at s r + field_bytes ≤ length s
  room = omega (arith, row_there s r (row_inside s (accepted_head s ok) r l), fields_fit s)

  put_members_lem : v < 2 ^ principals s → (members (put_members s r v) r ≡ v) × (takes (put_members s r v) r ≡ takes s r)
  unfolding members takes put_members
  put_members_lem b = rw (put_rows s r 10 4 v r (omega arith) (omega arith)) (
    word_put s (row_at s r + 10) 4 v (lt_of_lt_of_le b (pow_mono (accepted_facts s ok).principals_fit)) (omega (arith, room)),
    word_put_other s (row_at s r + 10) 4 v (row_at s r + 14) 8 (inr (omega arith)),
  )

  put_takes_lem : v < 2 ^ roles s → (members (put_takes s r v) r ≡ members s r) × (takes (put_takes s r v) r ≡ v)
  unfolding members takes put_takes
  put_takes_lem b = rw (put_rows s r 14 8 v r (omega arith) (omega arith)) (
    word_put_other s (row_at s r + 14) 8 v (row_at s r + 10) 4 (inl (omega arith)),
    word_put s (row_at s r + 14) 8 v (lt_of_lt_of_le b (pow_mono (accepted_facts s ok).roles_fit)) (omega (arith, room)),
  )

-- the named row after a mutation
pub mutate_row : (s : List ℕ) (k : Kind) (r x : ℕ) → Accepted s → r < roles s → x < operand_count s k
    → (members (mutate s k r x) r ≡ members_after s k r x) × (takes (mutate s k r x) r ≡ takes_after s k r x)
unfolding mutate
mutate_row s addMember r x a h l = put_members_lem s r _ a h (with_below (principals s) (members s r) x ((accepted_facts s a).row r h).members_below l)
mutate_row s deleteMember r x a h l = put_members_lem s r _ a h (lt_of_le_of_lt (without_le (members s r) x) ((accepted_facts s a).row r h).members_below)
mutate_row s addTaken r x a h l = put_takes_lem s r _ a h (with_below (roles s) (takes s r) x ((accepted_facts s a).row r h).takes_below l)
mutate_row s deleteTaken r x a h l = put_takes_lem s r _ a h (lt_of_le_of_lt (without_le (takes s r) x) ((accepted_facts s a).row r h).takes_below)

-- two policies that agree on a row still do after the same mutation
module _ (a b : List ℕ) (k : Kind) (r x : ℕ) where
  members_agree : (kind : Kind) → Agree a b r → members_after a kind r x ≡ members_after b kind r x
  members_agree addMember e = rw e.same_members
  members_agree deleteMember e = rw e.same_members
  members_agree addTaken e = e.same_members
  members_agree deleteTaken e = e.same_members

  takes_agree : (kind : Kind) → Agree a b r → takes_after a kind r x ≡ takes_after b kind r x
  takes_agree addMember e = e.same_takes
  takes_agree deleteMember e = e.same_takes
  takes_agree addTaken e = rw e.same_takes
  takes_agree deleteTaken e = rw e.same_takes

  pub mutate_agrees : Accepted a → r < roles a → x < operand_count a k → Accepted b → r < roles b → x < operand_count b k
      → (i : ℕ) → Agree a b i → Agree (mutate a k r x) (mutate b k r x) i
  mutate_agrees oka la oa okb lb ob i e = go (ℕ_discrete i r)
    where
      go : Dec (i ≡ r) → Agree (mutate a k r x) (mutate b k r x) i
      go (yes q) =
          let u = mutate_row a k r x oka la oa in
          let v = mutate_row b k r x okb lb ob in
          let d : Agree a b r = rw q at e in
          rw q record { same_members = u.0 ∙ members_agree k d ∙ sym v.0; same_takes = u.1 ∙ takes_agree k d ∙ sym v.1 }
      go (no n) = agree_trans (agree_sym (mutate_other a k r x i n)) (agree_trans e (mutate_other b k r x i n))

-- a set of numbers below n, each of which may be in it
record Granted (n : ℕ) (may : ℕ → Bool) (a : ℕ) : Type 0 where
  below : a < 2 ^ n
  each : (j : ℕ) → has a j ≡ true → may j ≡ true

granted_with : (n : ℕ) (may : ℕ → Bool) (a x : ℕ) → Granted n may a → x < n → may x ≡ true → Granted n may (with a x)
granted_with n may a x g l m = record {
  below = with_below n a x g.below l;
  each = λ j h. ⊎_elim (λ e. rw e m) (λ k. g.each j k) (with_has a x j h);
}

granted_without : (n : ℕ) (may : ℕ → Bool) (a x : ℕ) → Granted n may a → Granted n may (without a x)
granted_without n may a x g = record {
  below = lt_of_le_of_lt (without_le a x) g.below;
  each = λ j h. g.each j (without_has a x j h).0;
}

row_members : (s : List ℕ) (i : ℕ) → RowFacts s i → Granted (principals s) (may_hold s i) (members s i)
unfolding may_hold
row_members s i f = record {
  below = f.members_below;
  each = λ j h. rw (within_has _ _ j f.members_view h, within_has _ _ j f.members_trust h);
}

row_takes : (s : List ℕ) (i : ℕ) → RowFacts s i → Granted (roles s) (may_take s i) (takes s i)
row_takes s i f = record {
  below = f.takes_below;
  each = λ j h. f.takes_allowed j (has_below (roles s) (takes s i) j f.takes_below h) h;
}

members_after_lem : (s : List ℕ) (k : Kind) (r x : ℕ) → RowFacts s r → x < operand_count s k → allowed s k r x ≡ true
    → Granted (principals s) (may_hold s r) (members_after s k r x)
unfolding allowed
members_after_lem s addMember r x f l a = granted_with _ _ _ x (row_members s r f) l a
members_after_lem s deleteMember r x f l a = granted_without _ _ _ x (row_members s r f)
members_after_lem s addTaken r x f l a = row_members s r f
members_after_lem s deleteTaken r x f l a = row_members s r f

takes_after_lem : (s : List ℕ) (k : Kind) (r x : ℕ) → RowFacts s r → x < operand_count s k → allowed s k r x ≡ true
    → Granted (roles s) (may_take s r) (takes_after s k r x)
unfolding allowed
takes_after_lem s addMember r x f l a = row_takes s r f
takes_after_lem s deleteMember r x f l a = row_takes s r f
takes_after_lem s addTaken r x f l a = granted_with _ _ _ x (row_takes s r f) l a
takes_after_lem s deleteTaken r x f l a = granted_without _ _ _ x (row_takes s r f)

hold_both : (s : List ℕ) (i p : ℕ) → may_hold s i p ≡ true → (has (viewers s i) p ≡ true) × (has (trusters s i) p ≡ true)
unfolding may_hold
hold_both s i p = both (has (viewers s i) p) (has (trusters s i) p)

-- a row with the fixed part of an accepted policy, and with members and takes that may be
granted_row : (s t : List ℕ) (i : ℕ) → SameFixed s t → i < roles s → RowFacts s i
    → Granted (principals s) (may_hold s i) (members t i) → Granted (roles s) (may_take s i) (takes t i) → RowFacts t i
granted_row s t i e l f m k = record {
  owner_below = rw (← e.same_owner i l, ← e.same_principals) f.owner_below;
  viewers_below = rw (← e.same_viewers i l, ← e.same_principals) f.viewers_below;
  trusters_below = rw (← e.same_trusters i l, ← e.same_principals) f.trusters_below;
  members_below = rw (← e.same_principals) m.below;
  owner_views = rw (← e.same_viewers i l, ← e.same_owner i l) f.owner_views;
  owner_trusts = rw (← e.same_trusters i l, ← e.same_owner i l) f.owner_trusts;
  pair_new = λ j h o n. f.pair_new j h (e.same_owner i l ∙ o ∙ sym (e.same_owner j (lt_trans h l))) (e.same_name i l ∙ n ∙ sym (e.same_name j (lt_trans h l)));
  members_view = has_within (members t i) (viewers t i) (λ p h. rw (← e.same_viewers i l) (hold_both s i p (m.each p h)).0);
  members_trust = has_within (members t i) (trusters t i) (λ p h. rw (← e.same_trusters i l) (hold_both s i p (m.each p h)).1);
  takes_below = rw (← e.same_roles) k.below;
  takes_allowed = λ j h u. sym (may_take_fixed e i j l (rw e.same_roles h)) ∙ k.each j u;
}

pub mutate_accepted : (s : List ℕ) (k : Kind) (r x : ℕ) → Accepted s → r < roles s → x < operand_count s k → allowed s k r x ≡ true
    → Accepted (mutate s k r x)
mutate_accepted s k r x acc h l ok = facts_accepted t record {
  headed = rw length_mutate f.headed;
  marked = (mutate_regrants s k r x).mark ∙ f.marked;
  principals_some = rw (← e.same_principals) f.principals_some;
  principals_fit = rw (← e.same_principals) f.principals_fit;
  roles_fit = rw (← e.same_roles) f.roles_fit;
  long = length_mutate s k r x ∙ f.long ∙ bytes_same s t e.same_version e.same_roles;
  row = λ i j. stays i (rw e.same_roles j) (ℕ_discrete i r);
}
  where
    t : List ℕ
    t = mutate s k r x

    f : Facts s
    f = accepted_facts s acc

    e : SameFixed s t
    e = mutate_fixed s k r x

    stays : (i : ℕ) → i < roles s → Dec (i ≡ r) → RowFacts t i
    stays i j (yes q) =
        let after = mutate_row s k r x acc h l in
        rw q (granted_row s t r e h (f.row r h) (rw after.0 (members_after_lem s k r x (f.row r h) l ok)) (rw after.1 (takes_after_lem s k r x (f.row r h) l ok)))
    stays i j (no d) =
        let same = mutate_other s k r x i d in
        granted_row s t i e j (f.row i j) (rw (← same.same_members) (row_members s i (f.row i j))) (rw (← same.same_takes) (row_takes s i (f.row i j)))
