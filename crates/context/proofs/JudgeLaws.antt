-- A law for each return of judge.rt, and its loop: a set lies in an intersection exactly when it lies in each.
use Rattle.std.proofs.Common.{Result, Ok, Err}
use mathlib.Core.Path.{◌≡◌, refl, sym, ap, ◌∙◌}
use Prim.Native.Nat.{ℕ, zero, suc, ◌^◌, ◌<◌, ◌≤◌}
use native.Mathlib.Omega.{arith}
use native.Mathlib.Nat.{lt_of_lt_of_le, one-mul}
use native.Mathlib.Decide.{dec_lt, ℕ_discrete}
use mathlib.Core.List.{List}
use mathlib.Core.Bool.{Bool, true, false, cond, ◌&&◌}
use lib.Bits.{bit_and, bit_or, and_mask}
use borrow.Author.Tests.{eq-eqb}
use lib.Count.{count_trailing_zeros}
use Rattle.model.specs.Limits.{role_limit}
use Rattle.model.specs.Sets.{has, within, without}
use Rattle.model.specs.Policy.{Side, reading, trust, roles}
use Rattle.model.specs.Syntax.{of, Atom, role, fixed}
use Rattle.model.specs.Program.{variables, label_byte}
use Rattle.model.specs.Fits.{AtomFits}
use Rattle.model.specs.Order.{join_at_most}
use Rattle.model.specs.Flow.{label_atom, label, each_of}
use Rattle.model.proofs.Accepted.{accepted_facts}
use Rattle.model.proofs.Sets.{has_zero, in_none, has_or_l, has_or_r, subset_le, has_and, and_has, within_has, has_within, has_power, has_without, without_has}
use Rattle.model.proofs.Truth.{same_truth, both, and_both}
use Rattle.shared.proofs.SetLaws.{shifted}
use Rattle.shared.specs.declared.side.Side.{Side as CodeSide}
use Rattle.shared.specs.Sides.{model_side}
use Rattle.order.specs.Table.{Table, row_in, index_of, watched, Joins, Decides}
use Rattle.order.specs.declared.table.Row.{Row}
use Rattle.order.proofs.DecideLaws.{decided}
use Rattle.program.specs.declared.codes.Atom.{Atom as CodeAtom}
use Rattle.program.specs.Codes.{atom_of, model_atom, code_atom}
use Rattle.program.proofs.CodeLaws.{model_code, byte_atom}
use Rattle.gathered.specs.declared.labels.Labels.{Labels}
use Rattle.gathered.specs.Labels.{LabelsBelow}
use Rattle.context.specs.declared.around.Join.{Join}
use Rattle.context.specs.declared.judge.Written.{Written}
use Rattle.context.specs.declared.judge.Written.TheVariants.{Variable, Role}
use Rattle.context.specs.declared.around.Meets.{Meets}
use Rattle.context.specs.declared.around.Transaction.{Transaction}
use Rattle.context.specs.declared.around.Around.{Around}
use Rattle.context.specs.declared.around.Around.TheVariants.{Outside, Inside}
use Rattle.context.specs.declared.around.Context.{Context}
use Rattle.context.specs.Context.{join_of, meet_of, ContextIs}
use Rattle.context.specs.Judge.{sides_number, target_of, limit_of, Names, TargetAt, OneBelow, all_above, lies_in, narrowed, everything, MetOne, MetAll, Met, MetBoth, Held, held_number, AssignNumber}
use Rattle.context.proofs.ContextLaws.{label_byte_lem, atom_below, label_below}
use Rattle.program.specs.declared.codes.UnknownCode.{UnknownCode}

and_false : (a b : Bool) → b ≡ false → a && b ≡ false
and_false true b e = e
and_false false b e = refl

-- a set's numbers that pass a test
module _ (f : ℕ → Bool) (a : ℕ) where
  each_none : a ≤ 0 → (n : ℕ) → each_of a f n ≡ true
  unfolding each_of
  each_none z zero = refl
  each_none z (suc n) = let e : a ≡ 0 = omega arith in rw (each_none z n, e, has_zero n)

  module _ (x : ℕ) where
    each_without : f x ≡ true → (n : ℕ) → each_of (without a x) f n ≡ each_of a f n
    unfolding each_of
    each_without h zero = refl
    each_without h (suc n) = rw (each_without h n) (ap (λ (b : Bool). each_of a f n && b) (go (ℕ_discrete n x)))
      where
        passes : (b : Bool) → cond b true true ≡ true
        passes true = refl
        passes false = refl

        go : Dec (n ≡ x) → cond (has (without a x) n) (f n) true ≡ cond (has a n) (f n) true
        go (yes e) = let k : f n ≡ true = ap f e ∙ h in rw k (passes (has (without a x) n) ∙ sym (passes (has a n)))
        go (no k) = rw (same_truth (has (without a x) n) (has a n) (λ g. (without_has a x n g).0) (λ g. has_without a x n g k))

    each_stops : has a x ≡ true → f x ≡ false → (n : ℕ) → x < n → each_of a f n ≡ false
    unfolding each_of
    each_stops h k zero l = absurd (omega arith)
    each_stops h k (suc n) l = go (dec_lt x n) (each_stops h k n)
      where
        go : Dec (x < n) → (x < n → each_of a f n ≡ false) → each_of a f (suc n) ≡ false
        go (yes m) i = rw (i m)
        go (no m) i = let e : n ≡ x = omega arith in and_false (each_of a f n) _ (rw (e, h, k))

    each_taken : has a x ≡ true → (b : Bool) → f x ≡ b → (n : ℕ) → x < n → b && each_of (without a x) f n ≡ each_of a f n
    each_taken h true e n l = each_without e n
    each_taken h false e n l = sym (each_stops h e n l)

-- what a write is held to
label_names : (n : ℕ) (o : Result CodeAtom UnknownCode) → AtomFits role_limit (label_atom n) → o ≡ atom_of n → Names o (label_atom n)
label_names n o f e = record {
  named = code_atom (label_atom n);
  is = e ∙ ap atom_of (sym (label_byte_lem n)) ∙ byte_atom (label_atom n) f;
  stands = model_code (label_atom n);
}

module _ (p : List ℕ) (side : Side) (w : Written) (x : ℕ) where
  pub target_variable : (y : ℕ) (o : Result CodeAtom UnknownCode) → w ≡ Variable → y ≡ label_byte p side x → o ≡ atom_of y → TargetAt p side w x o
  unfolding TargetAt LabelsBelow label
  target_variable y o k e f s ok labels l =
      rw k (label_names (label_byte p side x) o (atom_below (label_byte p side x) role_limit (λ n. lt_of_lt_of_le (labels side x (rw k at l) n) (accepted_facts s ok).roles_fit)) (f ∙ ap atom_of e))

  pub target_role : (a : CodeAtom) → w ≡ Role → model_atom a ≡ fixed (of side x) → TargetAt p side w x (Ok a)
  unfolding TargetAt
  target_role a k e s ok labels l = rw k (record { named = a; is = refl; stands = e })

pub ruleset targets = (target_variable, target_role)

-- the atom that was read is the one that is named
same_named : (o : Result CodeAtom UnknownCode) (a : CodeAtom) (m : Atom) → Names o m → o ≡ Ok a → model_atom a ≡ m
same_named o a m u h = let k : a ≡ u.named = cc u.is in rw k u.stands

none_named : {A : Type 0} (o : Result CodeAtom UnknownCode) (m : Atom) → Names o m → o ≡ (Err (record {})) → A
none_named o m u h = let z : ◌≡◌ {A = ℕ} 0 1 = cc u.is in absurd (omega arith)

-- what a write is held to fits
target_fits : (s p : List ℕ) (side : Side) (w : Written) (x : ℕ) → LabelsBelow (roles s) p (variables p) → x < limit_of s p w → AtomFits (roles s) (target_of p side w x)
target_fits s p side Variable x labels l = label_below (roles s) p (variables p) labels side x l
target_fits s p side Role x labels l = l

module _ (p : List ℕ) (t : Table) (join : Join) (side : Side) (w : Written) (x : ℕ) (o : Result CodeAtom UnknownCode) (f : TargetAt p side w x o) where
  pub one_unknown : o ≡ (Err (record {})) → OneBelow p t join side w x false
  unfolding TargetAt OneBelow
  one_unknown h s l known C asked e m = none_named o _ (f s asked.is_accepted asked.labels m) h

  pub one_atom : (a : CodeAtom) (r : Bool) → o ≡ Ok a → Decides t side join.roles join.watchers (model_atom a) r → OneBelow p t join side w x r
  unfolding TargetAt OneBelow Decides
  one_atom a r h g s l known C asked e m =
      let i : model_atom a ≡ target_of p side w x = same_named o a _ (f s asked.is_accepted asked.labels m) h in
      let j : Joins side (C side) join.roles join.watchers = rw (← e) (asked.context.joined side) in
      rw i at (g s known (C side) asked.is_accepted asked.knows j (asked.context.below side) (rw i (target_fits s p side w x asked.labels m)))

-- the empty join is at most everything
within_none : (n : ℕ) → within 0 n ≡ true
within_none n = has_within 0 n (λ i k. in_none i k)

none_in : (a b : ℕ) → bit_or a b ≡ 0 → (a ≡ 0) × (b ≡ 0)
none_in a b e =
    let l : a ≤ bit_or a b = subset_le a (bit_or a b) (λ i h. has_or_l a b i h) in
    let m : b ≤ bit_or a b = subset_le b (bit_or a b) (λ i h. has_or_r a b i h) in
    (omega arith, omega arith)

pub one_empty : (p : List ℕ) (t : Table) (join : Join) (flag : CodeSide) (w : Written) (x : ℕ) → bit_or join.roles join.watchers ≡ 0 → OneBelow p t join (model_side flag) w x true
unfolding OneBelow Decides
one_empty p t join flag w x z s l known C asked e m =
    let (rs, ws) = none_in join.roles join.watchers z in
    let b = target_of p (model_side flag) w x in
    let r = row_in t (index_of (code_atom b)) in
    let j : Joins (model_side flag) (C (model_side flag)) join.roles join.watchers = rw (← e) (asked.context.joined (model_side flag)) in
    let u = decided t (code_atom b) join.roles join.watchers r (within join.roles r.roles) flag refl refl s known (C (model_side flag)) asked.is_accepted asked.knows j
    (asked.context.below (model_side flag)) (rw (model_code b) (target_fits s p (model_side flag) w x asked.labels m)) in
    let v : within join.roles r.roles && within join.watchers (watched (model_side flag) r) ≡ true = and_both (within join.roles r.roles) (within join.watchers (watched (model_side flag) r)) (rw rs (within_none r.roles)) (rw ws (within_none (watched (model_side flag) r))) in
    sym v ∙ rw (model_code b) at u

pub ruleset ones = (one_empty, one_unknown, one_atom)

-- a set lies in an intersection exactly when it lies in each
within_and : (a b c : ℕ) → within a (bit_and b c) ≡ within a b && within a c
within_and a b c =
    same_truth _ _
    (λ h. and_both _ _ (has_within a b (λ i k. (and_has b c i (within_has a (bit_and b c) i h k)).0)) (has_within a c (λ i k. (and_has b c i (within_has a (bit_and b c) i h k)).1)))
    (λ h. let (p, q) = both (within a b) (within a c) h in has_within a (bit_and b c) (λ i k. has_and b c i (within_has a b i p k) (within_has a c i q k)))

swapped : (a b c d : Bool) → (a && b) && (c && d) ≡ (a && c) && (b && d)
swapped true true c d = refl
swapped true false true d = refl
swapped true false false d = refl
swapped false b c d = refl

and_same : (a : Bool) → a && true ≡ a
and_same true = refl
and_same false = refl

and_grouped : (a b c : Bool) → (a && b) && c ≡ a && (b && c)
and_grouped true b c = refl
and_grouped false b c = refl

-- whether a join lies in a meet, and in one with one more row
module _ (j m : Join) where
  module _ (b : Bool) (e : b ≡ within j.roles m.roles) where
    pub lies_both : (r : Bool) → b ≡ true → r ≡ within j.watchers m.watchers → r ≡ lies_in j m
    unfolding lies_in
    lies_both r h g = rw (← e, h) g

    pub lies_not : b ≡ false → false ≡ lies_in j m
    unfolding lies_in
    lies_not h = rw (← e, h)

  lies_narrowed : (side : Side) (r : Row) → lies_in j (narrowed side m r) ≡ lies_in j m && (within j.roles r.roles && within j.watchers (watched side r))
  unfolding lies_in
  lies_narrowed side r =
      rw (within_and j.roles m.roles r.roles, within_and j.watchers m.watchers (watched side r))
      (swapped (within j.roles m.roles) (within j.roles r.roles) (within j.watchers m.watchers) (within j.watchers (watched side r)))

pub ruleset lies = (lies_both, lies_not)

pub narrowed_is : (side : Side) (m : Join) (r : Row) (w : ℕ) → w ≡ watched side r
    → ◌≡◌ {A = Join} (record { roles = bit_and m.roles r.roles; watchers = bit_and m.watchers w }) (narrowed side m r)
narrowed_is side m r w e = rw e

-- every context lies in everything
has_everything : (i : ℕ) → i < 64 → has 0xffffffffffffffff i ≡ true
has_everything i l =
    within_has (2 ^ i) 0xffffffffffffffff i (eq-eqb _ _ (and_mask (2 ^ i) 64 ∙ rw one-mul at (shifted i l))) (has_power i i ∙ eq-eqb i i refl)

lies_in_everything : (n : ℕ) (l : Context) (C : Side → List Atom) → n ≤ role_limit → ContextIs n l C → (side : Side) → lies_in (join_of side l) everything ≡ true
unfolding lies_in
lies_in_everything n l C few is side =
    and_both _ _
    (has_within _ _ (λ i k. has_everything i (lt_of_lt_of_le (is.below side (role i) ((is.joined side).role_out i k)) few)))
    (has_within _ _ (λ i k. has_everything i (lt_of_lt_of_le (is.below side (fixed (of side i)) ((is.joined side).fixed_out i k)) few)))

-- the meet with the row of what one write is held to
module _ (p : List ℕ) (t : Table) (flag : CodeSide) (w : Written) (x : ℕ) (o : Result CodeAtom UnknownCode) (f : TargetAt p (model_side flag) w x o) (m : Join) where
  pub met_none : o ≡ (Err (record {})) → MetOne p t (model_side flag) w x m m
  unfolding TargetAt MetOne
  met_none h s c known C asked l = none_named o _ (f s asked.is_accepted asked.labels l) h

  pub met_row : (a : CodeAtom) (r : Row) (n : Join) → o ≡ Ok a → r ≡ row_in t (index_of a) → n ≡ narrowed (model_side flag) m r → MetOne p t (model_side flag) w x m n
  unfolding TargetAt MetOne Decides
  met_row a r n h d g s c known C asked l =
      let e : model_atom a ≡ target_of p (model_side flag) w x = same_named o a _ (f s asked.is_accepted asked.labels l) h in
      let j = join_of (model_side flag) c in
      let u = decided t a j.roles j.watchers r (within j.roles r.roles) flag d refl s known (C (model_side flag)) asked.is_accepted asked.knows
      (asked.context.joined (model_side flag)) (asked.context.below (model_side flag)) (rw e (target_fits s p (model_side flag) w x asked.labels l)) in
      rw g (lies_narrowed j m (model_side flag) r ∙ ap (λ (b : Bool). lies_in j m && b) (rw e at u))

pub ruleset mets = (met_none, met_row)

-- a meet for what is left of a set is one for the whole
module _ (p : List ℕ) (t : Table) (side : Side) (w : Written) (set : ℕ) (m : Join) where
  unfoldable pub Meeting : ℕ → Join → Type 0
  Meeting left met = (r : Join) → MetAll p t side w left met r → MetAll p t side w set m r

  module _ (left : ℕ) (met : Join) (inv : Meeting left met) where
    pub meeting_done : left ≤ 0 → MetAll p t side w set m met
    unfolding Meeting MetAll all_above
    meeting_done z = inv met (λ s c known C asked sub.
        sym (ap (λ (b : Bool). lies_in (join_of side c) met && b) (each_none _ left z role_limit) ∙ and_same (lies_in (join_of side c) met)))

    pub meeting_more : (x next : ℕ) (more : Join) → x ≡ count_trailing_zeros 64 left → has left x ≡ true → x < 64 → MetOne p t side w x met more
        → next ≡ without left (count_trailing_zeros 64 left) → Meeting next more
    unfolding Meeting MetAll MetOne all_above
    meeting_more x next more e h l f g r k = inv r (λ s c known C asked sub.
        let n : next ≡ without left x = g ∙ ap (without left) (sym e) in
        let j = join_of side c in
        let test : ℕ → Bool = λ y. join_at_most s known (C side) (target_of p side w y) in
        let u = k s c known C asked (λ y i. sub y (without_has left x y (rw n at i)).0) in
        rw n at u ∙ ap (λ (b : Bool). b && each_of (without left x) test role_limit) (f s c known C asked (sub x h))
        ∙ and_grouped (lies_in j met) (test x) (each_of (without left x) test role_limit)
        ∙ ap (λ (b : Bool). lies_in j met && b) (each_taken test left x h (test x) refl role_limit l))

pub meeting_start : (p : List ℕ) (t : Table) (side : Side) (w : Written) (set : ℕ) (m : Join) → Meeting p t side w set m set m
unfolding Meeting
meeting_start p t side w set m r f = f

pub ruleset meetings = (meeting_start, meeting_done, meeting_more)

-- variables and roles, then both sides
module _ (p : List ℕ) (t : Table) (xs rs : ℕ) where
  pub met_both : (side : Side) (e m n : Join) → e ≡ everything → MetAll p t side Variable xs e m → MetAll p t side Role rs m n → Met p t side xs rs n
  unfolding MetAll Met
  met_both side e m n g a b s c known C asked sub sub' =
      let all : lies_in (join_of side c) e ≡ true = rw g (lies_in_everything (roles s) c C (accepted_facts s asked.is_accepted).roles_fit asked.context side) in
      b s c known C asked sub'
      ∙ ap (λ (v : Bool). v && all_above s p known C side Role rs) (a s c known C asked sub ∙ ap (λ (v : Bool). v && all_above s p known C side Variable xs) all)

  pub met_sides : (a b : Join) → Met p t reading xs rs a → Met p t trust xs rs b → MetBoth p t xs rs (record { reading = a; trust = b })
  unfolding MetBoth
  met_sides a b f g reading = f
  met_sides a b f g trust = g

pub ruleset boths = (met_both, met_sides)

-- a transaction whose updates are held
module _ (p : List ℕ) (t : Table) (a : Around) where
  pub held_outside : (w : Labels) → a ≡ Outside w → Held p t a a
  unfolding Held
  held_outside w e = rw e refl

  module _ (x : Transaction) (e : a ≡ Inside x) where
    pub held_same : x.roles ≡ 0 → Held p t a a
    unfolding Held
    held_same z = rw e (x, refl, record { same = refl; right = λ n. absurd (n z) })

    pub held_by : (m : Meets) → MetBoth p t x.variables x.roles m → Held p t a (Inside (record x { meets = m }))
    unfolding Held
    held_by m f = rw e (record x { meets = m }, refl, record { same = refl; right = λ _. f })

pub ruleset helds = (held_outside, held_same, held_by)

-- nothing against a context: it lies in both meets
pub held_none : (l : Context) (m : Meets) → held_number l m ≡ 0 → (side : Side) → lies_in (join_of side l) (meet_of side m) ≡ true
held_none l m e = go (lies_in (join_of reading l) m.reading) (lies_in (join_of trust l) m.trust) refl refl e
  where
    go : (a b : Bool) → lies_in (join_of reading l) m.reading ≡ a → lies_in (join_of trust l) m.trust ≡ b → sides_number a b ≡ 0 → (side : Side) → lies_in (join_of side l) (meet_of side m) ≡ true
    go true true f g e reading = f
    go true true f g e trust = g
    go true false f g e side = absurd (omega arith)
    go false b f g e side = absurd (omega arith)

pub assign_sides : (p : List ℕ) (t : Table) (l : Context) (x n : ℕ) (a b : Bool) → n ≡ sides_number a b
    → OneBelow p t (join_of reading l) reading Variable x a → OneBelow p t (join_of trust l) trust Variable x b → AssignNumber p t l x n
unfolding OneBelow AssignNumber
assign_sides p t l x n a b e f g s known C asked m = cc (e, f s l known C asked refl m, g s l known C asked refl m)

pub held_sides : (l : Context) (m : Meets) (k : ℕ) (a b : Bool) → k ≡ sides_number a b → a ≡ lies_in (join_of reading l) m.reading → b ≡ lies_in (join_of trust l) m.trust → k ≡ held_number l m
held_sides l m k a b e f g = e ∙ rw (f, g)
