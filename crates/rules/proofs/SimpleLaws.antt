-- A law for each return of simple.rt: the tests that led there and what the callees say give the rules' verdict of the assignment
-- or update that stands at the position.
use mathlib.Core.Path.{◌≡◌, refl, sym, ap, subst, ◌∙◌}
use Prim.Native.Nat.{ℕ, ◌+◌, ◌<◌}
use native.Mathlib.Omega.{arith}
use native.Mathlib.Decide.{ℕ_discrete}
use mathlib.Core.List.{List, ◌∷◌, ◌++◌}
use mathlib.Core.Bool.{Bool, true, false, cond}
use lib.Dec.{eqb}
use borrow.Author.Tests.{ne_eqb}
use Rattle.model.specs.Number.{fine, require}
use Rattle.model.specs.Bytes.{byte}
use Rattle.model.specs.Policy.{Side, reading, trust, principals, roles, Accepted}
use Rattle.model.specs.Mutation.{Mutation}
use Rattle.model.specs.Syntax.{Atom, Query, Stmt, update}
use Rattle.model.specs.Program.{variables}
use Rattle.model.specs.Flow.{inside, expr_label, list_label, roles_of, mutated, all_allowed, may_assign, may_update, flow}
use Rattle.model.proofs.Sets.{in_none, has_with_same}
use Rattle.model.proofs.Standing.{many_more, mutations_end, assign_parts, update_parts}
use Rattle.std.proofs.Common.{Result, Err}
use Rattle.program.specs.declared.refused.Refused.{Refused}
use Rattle.program.specs.Answer.{reached, stopped, place_limit, refusal}
use Rattle.program.specs.Refused.{tells}
use Rattle.gathered.specs.Positions.{ahead, after_list}
use Rattle.order.specs.Table.{Table}
use Rattle.gathered.specs.declared.labels.Labels.{Labels}
use Rattle.gathered.proofs.PositionLaws.{ahead_is, list_is}
use Rattle.context.specs.Lists.{AllowedAt}
use Rattle.context.specs.declared.around.Transaction.{Transaction}
use Rattle.context.specs.declared.around.Around.{Around}
use Rattle.context.specs.declared.around.Around.TheVariants as around
use Rattle.context.specs.declared.around.Context.{Context}
use Rattle.context.specs.Context.{Carried, carried, with_named, join_of, meet_of, ContextIs}
use Rattle.context.specs.Judge.{sides_number, all_above, both_above, lies_in, Met, MetBoth, held_number, AssignNumber}
use Rattle.rules.specs.Check.{checked_to, numbered, numbered_answer, MeetsAre, StmtAt, Writes, CheckedAt, JoinedAt, AssignAt, UpdateAt}
use Rattle.context.proofs.ContextLaws.{context_list}
use Rattle.rules.proofs.StandsLaws.{stopped_tells, stands_asked, roles_few, low_start, joined_is, within_one, within_none}

-- what a number tells at a place
numbered_told : (k place end : ℕ) (r : Result ℕ Refused) → r ≡ numbered_answer k place end → place < place_limit → tells r ≡ numbered k place end
unfolding numbered_answer numbered
numbered_told k place end r e l = go (ℕ_discrete k 0)
  where
    go : Dec (k ≡ 0) → tells r ≡ cond (eqb k 0) (reached end) (stopped k place)
    go (yes z) = rw (e, z) refl
    go (no n) = rw (e, ne_eqb k 0 n) (stopped_tells (record { word = refusal k place }) k place refl l)

sides_checked : (a b : Bool) (at end : ℕ) → numbered (sides_number a b) at end ≡ checked_to (require a 17 at (require b 18 at fine)) end
unfolding numbered checked_to
sides_checked true true at end = refl
sides_checked true false at end = refl
sides_checked false b at end = refl

sides_same : {a a' b b' : Bool} → a ≡ a' → b ≡ b' → sides_number a b ≡ sides_number a' b'
sides_same e f = rw (e, f)

-- an update mutates a role, and so does the transaction around it
writes_update : (listed : List Query) (xs rs at : ℕ) (m : Mutation) (ms : List Mutation) → Writes (inside listed xs rs) (update at (m ∷ ms)) → rs ≡ 0 → ⊥
unfolding Writes mutated roles_of
writes_update listed xs rs at m ms w z = in_none m.role (rw z at (w.1 m.role (has_with_same (roles_of ms) m.role)))

-- an assignment
pub assign_checked : (p : List ℕ) (t : Table) (b : Context) (at q x m : ℕ) (a : Context) (next n : ℕ) (r : Result ℕ Refused)
    → q ≡ ahead p at 1 → x ≡ byte p q → m ≡ ahead p at 2 → JoinedAt p m b a next → AssignNumber p t a x n → r ≡ numbered_answer n at next → AssignAt p t b at r
unfolding AssignAt CheckedAt AssignNumber flow may_assign
assign_checked p t b at q x m a next n r e₁ e₂ e₃ f h j s c d ce code around known C y end st i fit =
    let u = assign_parts p (principals s) (roles s) (variables p) d at i code in
    let xe : x ≡ byte p (at + 1) = e₂ ∙ ap (byte p) (e₁ ∙ ahead_is p at 1 (omega (arith, u.inside))) in
    let me : m ≡ at + 2 = e₃ ∙ ahead_is p at 2 u.inside in
    let w = rw u.is at fit.0 in
    let (le, k) = joined_is st m a next u.value end (subst (λ (l : Context). JoinedAt p m l a next) (sym ce) f) (rw me u.value_read) w.1 in
    let v = h s known (λ side. expr_label p side u.value ++ C side) (stands_asked st a k) (rw xe u.fits) in
    let told-so : tells r ≡ numbered n at end = numbered_told n at end r (rw (← le) j) (low_start st d at i) in
    rw (u.is, told-so, v, ← xe)
    (sides_checked (may_assign s p known C x u.value reading) (may_assign s p known C x u.value trust) at end)

-- an update
module _ (s p : List ℕ) (at : ℕ) where
  pub update_outside : (c : Carried) (x : Labels) (r : Refused) → c.around ≡ around.Outside x → r.word ≡ refusal 15 at → UpdateAt s p c at (Err r)
  unfolding UpdateAt CheckedAt flow checked_to
  update_outside c x r e g t d code around known C y end st h fit =
      let u = update_parts p (principals s) (roles s) (variables p) d at h code in
      rw (u.is, (within_none p (roles s) (variables p) c.around around x st.surrounded e).0) (stopped_tells r 15 at g (low_start st d at h))

  pub update_inside : (a : Around) (l : Context) (x : Transaction) (r : Result ℕ Refused) → a ≡ around.Inside x → UpdateAt s p (carried (around.Inside x) l) at r → UpdateAt s p (carried a l) at r
  update_inside a l x r e f = rw e f

  module _ (q n m : ℕ) (b : Bool) (i : q ≡ ahead p at 1) (j : n ≡ byte p q) (k : m ≡ ahead p at 2) (f : AllowedAt s p n m b) (a : Transaction) (l : Context) where
    allowed_is : (d : ℕ) (x : Stmt) (end : ℕ) → Accepted s → (h : StmtAt s p d at x end) → (code : byte p at ≡ 6) → b ≡ all_allowed s (update_parts p (principals s) (roles s) (variables p) d at h code).mutations
    unfolding AllowedAt
    allowed_is d x end ok h code =
        let u = update_parts p (principals s) (roles s) (variables p) d at h code in
        let ne : n ≡ byte p (at + 1) = j ∙ ap (byte p) (i ∙ ahead_is p at 1 (omega (arith, u.inside))) in
        let me : m ≡ at + 2 = k ∙ ahead_is p at 2 u.inside in
        f u.mutations end ok (rw (ne, me) u.mutations_read)

    pub update_grant : (r : Refused) → b ≡ false → r.word ≡ refusal 16 at → UpdateAt s p (carried (around.Inside a) l) at (Err r)
    unfolding UpdateAt CheckedAt flow checked_to
    update_grant r g re t d code around known C x end st h fit =
        let u = update_parts p (principals s) (roles s) (variables p) d at h code in
        let w = within_one p (roles s) (variables p) _ around a st.surrounded refl in
        let v = sym (allowed_is d x end st.is_accepted h code) ∙ g in
        rw (u.is, w.is, v) (stopped_tells r 16 at re (low_start st d at h))

    pub update_granted : (r : Result ℕ Refused) (y o : ℕ) → b ≡ true → r ≡ numbered_answer y at o → o ≡ after_list p at 3 → y ≡ held_number (with_named l a.named) a.meets
        → UpdateAt s p (carried (around.Inside a) l) at r
    unfolding UpdateAt CheckedAt MetBoth Met flow may_update all_above
    update_granted r y o g re oe h t d code W known C x end st z fit =
        let u = update_parts p (principals s) (roles s) (variables p) d at z code in
        let w = within_one p (roles s) (variables p) _ W a st.surrounded refl in
        let v = sym (allowed_is d x end st.is_accepted z code) ∙ g in
        let ends = mutations_end p (principals s) (roles s) (byte p (at + 1)) (at + 2) u.mutations_read u.inside in
        let oo : o ≡ end = oe ∙ list_is p at 3 (omega arith) ∙ sym ends.0 in
        let K : Side → List Atom = λ side. C side ++ list_label side w.listed in
        let cl : ContextIs (roles s) (with_named l a.named) K = subst (λ (n : ℕ). ContextIs (roles s) (with_named l n) K) (sym w.parts.named_are) (context_list (roles s) l C st.context (roles_few st) w.listed w.parts.listed_below) in
        let v₁ = many_more _ (byte p (at + 1)) (at + 2) u.mutations_read u.some in
        let writes : Writes (inside w.listed w.xs w.rs) (update at (v₁.head ∷ v₁.tail)) = rw (w.is, u.is, v₁.is) at fit.1 in
        let held : MetBoth p t w.xs w.rs a.meets = subst (MeetsAre p t (around.Inside a)) w.is st.met (writes_update w.listed w.xs w.rs at v₁.head v₁.tail writes) in
        let side : (side : Side) → lies_in (join_of side (with_named l a.named)) (meet_of side a.meets) ≡ both_above s p known K side w.xs w.rs = λ side. held side s (with_named l a.named) known K (stands_asked st _ cl) w.parts.variables_below w.parts.roles_below in
        let n = h ∙ sides_same (side reading) (side trust) in
        let told-so : tells r ≡ numbered y at end = numbered_told y at end r (rw (← oo) re) (low_start st d at z) in
        rw (u.is, w.is, v, told-so, n) (sides_checked (may_update s p known C w.listed w.xs w.rs reading) (may_update s p known C w.listed w.xs w.rs trust) at end)

pub ruleset updates = (update_outside, update_inside, update_grant, update_granted)
