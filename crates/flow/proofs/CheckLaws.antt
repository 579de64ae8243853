-- A law for each return of check.rt: the tests that led there and what the callees say give the rules' verdict of the tree
-- that stands at the position.
use Rattle.std.specs.Prelude.{IsErrAnd}
use Rattle.std.proofs.Common.{Result, Ok, Err}
use mathlib.Core.Path.{◌≡◌, refl, sym, ap, subst, ◌∙◌}
use Prim.Native.Nat.{ℕ, ◌+◌, ◌-◌, ◌<◌, ◌≤◌}
use native.Mathlib.Omega.{arith}
use mathlib.Core.List.{List, ◌∷◌, ◌++◌}
use mathlib.Core.Bool.{Bool, true, false}
use lib.Bits.{bit_or}
use lib.Dec.{eqb}
use lib.ListN.{length}
use borrow.Author.Tests.{eqb-true}
use Rattle.model.specs.Limits.{role_limit}
use Rattle.model.specs.Number.{Verdict, fine, refused, or_else}
use Rattle.model.specs.Bytes.{byte}
use Rattle.model.specs.Policy.{Side, principals, roles, Accepted}
use Rattle.model.specs.Syntax.{Atom, Query as ModelQuery, Expr, Stmt, block, if, while, query as stmtQuery}
use Rattle.model.specs.Program.{got, variables, read_many, read_query, read_stmt, block_of}
use Rattle.model.specs.Fits.{QueryFits}
use Rattle.model.specs.Flow.{Around as Surroundings, outside, inside, expr_label, query_label, under_query, assigned, mutated, listed_in, flow}
use Rattle.model.proofs.Accepted.{accepted_facts}
use Rattle.model.proofs.Fits.{listed_member}
use Rattle.model.proofs.Sets.{has_or_l, has_or_r}
use Rattle.model.proofs.Standing.{many_none, many_more, stmt_deep, stmt_there, stmt_known, skip_parts, block_parts, if_parts, while_parts, branch_parts, transaction_parts}
use Rattle.model.proofs.FlowParts.{Subset}
use Rattle.program.specs.declared.codes.Statement.{Statement}
use Rattle.program.specs.declared.codes.Statement.TheVariants.{Skip, Assign, Block, If, While, Query, Update, Transaction}
use Rattle.program.specs.Answer.{reached, stopped, refusal}
use Rattle.program.specs.declared.refused.Refused.{Refused}
use Rattle.program.specs.Refused.{tells}
use Rattle.program.specs.Codes.{statement_of, statement_byte}
use Rattle.program.proofs.CodeLaws.{statement_byte_lem, statement_none}
use Rattle.program.specs.Skips.{Skips}
use Rattle.program.proofs.SkipLaws.{over_row}
use Rattle.order.specs.Table.{Table, query_of, Learnt}
use Rattle.order.proofs.LearnLaws.{known_learnt}
use Rattle.gathered.specs.Positions.{ahead, after_list}
use Rattle.gathered.specs.declared.labels.Labels.{Labels}
use Rattle.gathered.specs.Labels.{all_below}
use Rattle.gathered.proofs.PositionLaws.{ahead_is, list_is}
use Rattle.context.specs.declared.lists.Query.{Query as CodeQuery}
use Rattle.context.specs.declared.around.Meets.{Meets}
use Rattle.context.specs.declared.around.Transaction.{Transaction as CodeTransaction}
use Rattle.context.specs.declared.around.Around.{Around}
use Rattle.context.specs.declared.around.Around.TheVariants.{Outside, Inside}
use Rattle.context.specs.declared.around.Context.{Context}
use Rattle.context.specs.Lists.{ListedAt, QueryAt, KnownAt, QueryRolesAt}
use Rattle.context.specs.Context.{Carried, carried, with_labels, with_named, ContextIs}
use Rattle.context.specs.Judge.{MetBoth, Holds, Held}
use Rattle.rules.specs.Check.{checked_to, Inside as InsideIs, AroundIs, found_free, MeetsAre, may_flow, Free, Stands, StmtAt, Writes, StmtFits, CheckedAt, JoinedAt, AssignAt, UpdateAt, body_start, EnteredAt, Enters}
use Rattle.flow.specs.Check.{CodedAt, PairAt, BranchesAt, Knowing, BothAt, LearntAt, BranchesOf}
use Rattle.context.proofs.ContextLaws.{context_query, context_list}
use Rattle.context.proofs.ListLaws.{query_not, query_is}
use Rattle.rules.proofs.StandsLaws.{stopped_tells, stands_asked, roles_few, low_start, stands_context, under_all, joined_is, within_one, within_none}
use Rattle.flow.proofs.FreeLaws.{all_fits, free_query, free_same, free_met, free_known, free_expr}
use Rattle.program.specs.declared.codes.UnknownCode.{UnknownCode}

-- a position is no refusal
pub reached_not : {A : Type 0} {m k place : ℕ} → reached m ≡ stopped k place → A
reached_not e = let z : ◌≡◌ {A = ℕ} 0 1 = cc in absurd (omega arith)

-- two verdicts one after the other: a refusal is passed on as it came, by `?`
pub passed_on : (v w : Verdict) (mid end : ℕ) (x : Refused) (r : Result ℕ Refused) → tells (Err x) ≡ checked_to v mid → IsErrAnd r (λ y. y ≡ x) → tells r ≡ checked_to (or_else v w) end
unfolding checked_to
passed_on fine w mid end x r e q = reached_not (sym e)
passed_on (refused k place) w mid end x (Err y) e q = rw q e
passed_on (refused k place) w mid end x (Ok m) e q = elim q [ ]

-- or the second begins where the first ends
module _ (v w : Verdict) (m mid : ℕ) (e : reached m ≡ checked_to v mid) where
  reached_is : m ≡ mid
  unfolding checked_to
  reached_is = go v e
    where
      go : (v : Verdict) → reached m ≡ checked_to v mid → m ≡ mid
      go fine e = cc
      go (refused l n) e = reached_not e

  or_reached : or_else v w ≡ w
  unfolding checked_to
  or_reached = go v e
    where
      go : (v : Verdict) → reached m ≡ checked_to v mid → or_else v w ≡ w
      go fine e = refl
      go (refused l n) e = reached_not e

-- what the parts write
writes_parts : (around : Surroundings) (x a b : Stmt) → assigned x ≡ bit_or (assigned a) (assigned b) → mutated x ≡ bit_or (mutated a) (mutated b)
    → Writes around x → Writes around a × Writes around b
unfolding Writes
writes_parts outside x a b e f w = (tt, tt)
writes_parts (inside listed xs rs) x a b e f w =
    let (u, v) : Subset (bit_or (assigned a) (assigned b)) xs × Subset (bit_or (mutated a) (mutated b)) rs = rw (e, f) at w in
    ((λ i m. u i (has_or_l (assigned a) (assigned b) i m), λ i m. v i (has_or_l (mutated a) (mutated b) i m)), (λ i m. u i (has_or_r (assigned a) (assigned b) i m), λ i m. v i (has_or_r (mutated a) (mutated b) i m)))

writes_if : (around : Surroundings) (e : Expr) (a b : Stmt) → Writes around (if e a b) → Writes around a × Writes around b
unfolding assigned mutated
writes_if around e a b w = writes_parts around (if e a b) a b refl refl w

writes_query : (around : Surroundings) (at : ℕ) (q : ModelQuery) (a b : Stmt) → Writes around (stmtQuery at q a b) → Writes around a × Writes around b
unfolding assigned mutated
writes_query around at q a b w = writes_parts around (stmtQuery at q a b) a b refl refl w

writes_while : (around : Surroundings) (e : Expr) (a : Stmt) → Writes around (while e a) → Writes around a
unfolding Writes assigned mutated
writes_while outside e a w = tt
writes_while (inside listed xs rs) e a w = w

writes_body : (listed : List ModelQuery) (x : Stmt) → Writes (inside listed (assigned x) (mutated x)) x
unfolding Writes
writes_body listed x = (λ i m. m, λ i m. m)

block_fits : (s p : List ℕ) (around : Surroundings) (a : Stmt) (rest : List Stmt) → StmtFits s p around (block_of (a ∷ rest)) → StmtFits s p around a × StmtFits s p around (block_of rest)
unfolding block_of assigned mutated
block_fits s p around a rest f =
    let (l, m) = writes_parts around (block a (block_of rest)) a (block_of rest) refl refl f.1 in
    ((f.0.0, l), (f.0.1, m))

-- two statements
module _ (s p : List ℕ) (t : Table) (c : Carried) (d at : ℕ) where
  pub pair_first : (e : Refused) (r : Result ℕ Refused) → CheckedAt s p t c d at (Err e) → IsErrAnd r (λ y. y ≡ e) → PairAt s p t c d at r
  unfolding CheckedAt PairAt
  pair_first e r f q around known C x y mid end st h fit i fit' = passed_on _ _ mid end e r (f around known C x mid st h fit) q

  pub pair_second : (m : ℕ) (r : Result ℕ Refused) → CheckedAt s p t c d at (Ok m) → CheckedAt s p t c d m r → PairAt s p t c d at r
  unfolding CheckedAt PairAt
  pair_second m r f g around known C x y mid end st h fit i fit' =
      let v = f around known C x mid st h fit in
      let k : m ≡ mid = reached_is _ (flow s p around known C y) m mid v in
      g around known C y end st (rw k i) fit' ∙ rw (or_reached _ (flow s p around known C y) m mid v)

-- an accepted policy has few roles
pub few_roles : (s : List ℕ) (n : ℕ) → Accepted s → n ≡ roles s → n ≤ role_limit
few_roles s n ok e = rw e (accepted_facts s ok).roles_fit

-- the branches of a query: the first by the table k and what b carries, which also know it, the second by the table t
module _ (s p : List ℕ) (k t : Table) (b c : Carried) (d at : ℕ) (o : Result ℕ Refused) (f : CheckedAt s p k b d at o) where
  first_branch : (q : ModelQuery) → Knowing s p k t b c q → (around : Surroundings) (known : List ModelQuery) (C : Side → List Atom) (x : Stmt) (mid : ℕ)
      → QueryFits (roles s) q → Stands s p t c around known C → StmtAt s p d at x mid → StmtFits s p around x
      → tells o ≡ checked_to (flow s p around (q ∷ known) C x) mid
  unfolding CheckedAt Knowing
  first_branch q l around known C x mid fits st h fit = f around (q ∷ known) C x mid (l around known C fits st) h fit

module _ (s p : List ℕ) (k t : Table) (b c : Carried) (d at : ℕ) where
  pub branches_first : (e : Refused) (r : Result ℕ Refused) → CheckedAt s p k b d at (Err e) → IsErrAnd r (λ y. y ≡ e) → BothAt s p k t b c d at r
  unfolding BothAt BranchesAt
  branches_first e r f g q l around known C x y mid end below st h fit h' fit' =
      passed_on _ _ mid end e r (first_branch s p k t b c d at (Err e) f q l around known C x mid below st h fit) g

  pub branches_second : (m : ℕ) (r : Result ℕ Refused) → CheckedAt s p k b d at (Ok m) → CheckedAt s p t c d m r → BothAt s p k t b c d at r
  unfolding BothAt BranchesAt CheckedAt
  branches_second m r f w q l around known C x y mid end below st h fit h' fit' =
      let v = first_branch s p k t b c d at (Ok m) f q l around known C x mid below st h fit in
      let e : m ≡ mid = reached_is _ (flow s p around known C y) m mid v in
      w around known C y end st (rw e h') fit' ∙ rw (or_reached _ (flow s p around known C y) m mid v)

-- a transaction whose updates are held to what a table gives stands for what it stood for
module _ (p : List ℕ) (k : Table) (R vars : ℕ) where
  inside_held : (a b : CodeTransaction) → Holds p k a b → (listed : List ModelQuery) (xs rs : ℕ) → InsideIs p R vars a listed xs rs → InsideIs p R vars b listed xs rs
  inside_held a b h listed xs rs i =
      subst (λ (x : CodeTransaction). InsideIs p R vars x listed xs rs) (sym h.same) (record {
        end = i.end;
        listed_read = i.listed_read;
        listed_below = i.listed_below;
        named_are = i.named_are;
        variables_are = i.variables_are;
        variables_below = i.variables_below;
        roles_are = i.roles_are;
        roles_below = i.roles_below;
      })

  met_same : (m : Meets) {xs xs' rs rs' : ℕ} → xs ≡ xs' → rs ≡ rs' → ((rs ≡ 0 → ⊥) → MetBoth p k xs rs m) → (rs' ≡ 0 → ⊥) → MetBoth p k xs' rs' m
  met_same m e f h = rw (← e, ← f) h

  held_around : (a b : Around) → Held p k a b → (w : Surroundings) → AroundIs p R vars a w → AroundIs p R vars b w
  unfolding Held
  held_around (Outside x) b h w i = rw h i
  held_around (Inside x) b (y, e, h) outside i = absurd i
  held_around (Inside x) b (y, e, h) (inside listed xs rs) i = rw e (inside_held x y h listed xs rs i)

  held_free : (a b : Around) → Held p k a b → found_free b ≡ true → found_free a ≡ true
  unfolding Held
  held_free (Outside x) b h z = rw h at z
  held_free (Inside x) b (y, e, h) z = sym (ap (λ (t : CodeTransaction). t.free) h.same) ∙ rw e at z

  held_meets : (a b : Around) → Held p k a b → (w : Surroundings) → AroundIs p R vars a w → MeetsAre p k b w
  unfolding Held
  held_meets (Outside x) b h w i = rw h tt
  held_meets (Inside x) b (y, e, h) outside i = absurd i
  held_meets (Inside x) b (y, e, h) (inside listed xs rs) i = rw e (met_same y.meets i.variables_are i.roles_are h.right)

-- a table that knows the query too, and what an update is held to by it
module _ (s p : List ℕ) (k t : Table) (q : ModelQuery) (l : Learnt (roles s) t k q) where
  knowing_by : (b c : Carried) → ((w : Surroundings) → AroundIs p (roles s) (variables p) c.around w → AroundIs p (roles s) (variables p) b.around w)
      → (found_free b.around ≡ true → found_free c.around ≡ true)
      → ((w : Surroundings) → AroundIs p (roles s) (variables p) c.around w → MeetsAre p t c.around w → MeetsAre p k b.around w) → b.context ≡ c.context → Knowing s p k t b c q
  unfolding Knowing Learnt
  knowing_by b c e g m f around known C fits st = record {
    is_accepted = st.is_accepted;
    short = st.short;
    few = st.few;
    labels = st.labels;
    knows = l s known st.is_accepted refl fits st.knows;
    surrounded = e around st.surrounded;
    met = m around st.surrounded st.met;
    free = λ z. free_known s p known C around q (st.free (g z));
    context = rw f st.context;
  }

  knowing_learnt : (a b : Around) (x : Context) → Held p k a b → Knowing s p k t (carried b x) (carried a x) q
  knowing_learnt a b x h =
      knowing_by (carried b x) (carried a x) (held_around p k (roles s) (variables p) a b h) (held_free p k (roles s) (variables p) a b h)
      (λ w i _. held_meets p k (roles s) (variables p) a b h w i) refl

pub held_both : (s p : List ℕ) (k t : Table) (a b : Around) (x : Context) (d at : ℕ) (r : Result ℕ Refused) → Held p k a b → BothAt s p k t (carried b x) (carried a x) d at r → LearntAt s p k t (carried a x) d at r
unfolding BothAt LearntAt
held_both s p k t a b x d at r h f q l = f q (knowing_learnt s p k t q l a b x h)

knowing_same : (s p : List ℕ) (t : Table) (q : ModelQuery) → Learnt (roles s) t t q → (c : Carried) → Knowing s p t t c c q
knowing_same s p t q l c = knowing_by s p t t q l c c (λ w h. h) (λ z. z) (λ w _ h. h) refl

-- a query in a free transaction
asked_free : (s p : List ℕ) (t : Table) (c : Carried) (a : CodeTransaction) (d at asked : ℕ) (r : Result ℕ Refused) → c.around ≡ Inside a → a.free ≡ true → PairAt s p t c d at r → BranchesOf s p t c d at asked r
unfolding PairAt BranchesOf BranchesAt Writes
asked_free s p t c a d at asked r i z g q end _ around known C x y mid after below st h fit h' fit' =
    let w = within_one p (roles s) (variables p) c.around around a st.surrounded i in
    let f : Free s p (inside w.listed w.xs w.rs) known C = rw w.is at (st.free (ap found_free i ∙ z)) in
    let f' : Free s p (inside w.listed w.xs w.rs) (q ∷ known) C = free_known s p known C (inside w.listed w.xs w.rs) q f in
    let writes : Writes (inside w.listed w.xs w.rs) x = rw w.is at fit.1 in
    let same : flow s p around known C x ≡ flow s p around (q ∷ known) C x = rw w.is (free_same s p w.listed w.xs w.rs (principals s) (roles s) (roles_few st) w.parts.listed_below x fit.0 writes.0 known (q ∷ known) C f f') in
    g around known C x y mid after st h fit h' fit' ∙ ap (λ (v : Verdict). checked_to (or_else v (flow s p around known C y)) after) same

-- a query that the table knows
asked_known : (s p : List ℕ) (t : Table) (c : Carried) (d at asked : ℕ) (b : Bool) (r : Result ℕ Refused) → KnownAt p t asked b → b ≡ true → BothAt s p t t c c d at r → BranchesOf s p t c d at asked r
unfolding KnownAt BothAt BranchesOf
asked_known s p t c d at asked b r g z h q end i = h q (knowing_same s p t q (known_learnt (roles s) t q b (g (roles s) q end i) z) c)

-- with a table of its own
module _ (s p : List ℕ) (t : Table) (c : Carried) (d at asked : ℕ) (o : Result CodeQuery UnknownCode) (f : QueryAt p asked o) where
  pub learnt_none : (r : Result ℕ Refused) (x : UnknownCode) → o ≡ Err x → BranchesOf s p t c d at asked r
  unfolding QueryAt BranchesOf
  learnt_none r x g q end h = query_not o q x (f (roles s) q end h) g

  pub learnt_both : (a : CodeQuery) (n : ℕ) (k : Table) (r : Result ℕ Refused) → o ≡ Ok a → n ≡ roles s → Learnt n t k (query_of a.first a.second) → LearntAt s p k t c d at r → BranchesOf s p t c d at asked r
  unfolding QueryAt LearntAt BranchesOf
  learnt_both a n k r g e l w q end h =
      w q (learnt_same t k e (query_is o q a (f (roles s) q end h) g) l)
    where
      learnt_same : (t k : Table) {n m : ℕ} {q q' : ModelQuery} → n ≡ m → q ≡ q' → Learnt n t k q → Learnt m t k q'
      learnt_same t k e f l = rw (← e, ← f) l

-- a skip is never refused
skip_checked : (s p : List ℕ) (t : Table) (c : Carried) (d at q : ℕ) → byte p at ≡ 0 → q ≡ ahead p at 1 → CheckedAt s p t c d at (Ok q)
unfolding CheckedAt flow checked_to
skip_checked s p t c d at q code e around known C x end st h fit =
    let u = skip_parts p (principals s) (roles s) (variables p) d at h code in
    let qe : q ≡ end = e ∙ ahead_is p at 1 (omega (arith, stmt_there p (principals s) (roles s) (variables p) d at h)) ∙ sym u.1 in
    rw (u.0, qe) refl

pub branch_skip : (s p : List ℕ) (t : Table) (c : Carried) (d at q : ℕ) (i : Bool) → i ≡ eqb (byte p at) 0 → i ≡ true → q ≡ ahead p at 1 → CheckedAt s p t c d at (Ok q)
branch_skip s p t c d at q i e h k = skip_checked s p t c d at q (eqb-true (byte p at) 0 (sym e ∙ h)) k

-- a statement, by its code
module _ (s p : List ℕ) (t : Table) (c : Carried) (d at : ℕ) where
  -- a block: what is left of it decides
  pub record Blocked (around : Surroundings) (known : List ModelQuery) (C : Side → List Atom) (left next : ℕ) (x : Stmt) (end : ℕ) : Type 0 where
    pub rest : List Stmt
    pub rest_read : read_many (read_stmt p (principals s) (roles s) (variables p) (d - 1)) left next ≡ got rest end
    pub rest_fits : StmtFits s p around (block_of rest)
    pub same : flow s p around known C x ≡ flow s p around known C (block_of rest)

  unfoldable pub Blocking : ℕ → ℕ → Type 0
  Blocking left next =
      (around : Surroundings) (known : List ModelQuery) (C : Side → List Atom) (x : Stmt) (end : ℕ) → byte p at ≡ 2
      → Stands s p t c around known C → StmtAt s p d at x end → StmtFits s p around x → Blocked around known C left next x end

  pub block_start : (q left next : ℕ) → q ≡ ahead p at 1 → left ≡ byte p q → next ≡ ahead p at 2 → Blocking left next
  unfolding Blocking
  block_start q left next e₁ e₂ e₃ around known C x end code st h fit =
      let u = block_parts p (principals s) (roles s) (variables p) d at h code in
      let le : left ≡ byte p (at + 1) = e₂ ∙ ap (byte p) (e₁ ∙ ahead_is p at 1 (omega (arith, u.inside))) in
      let ne : next ≡ at + 2 = e₃ ∙ ahead_is p at 2 u.inside in
      record { rest = u.parts; rest_read = rw (le, ne) u.parts_read; rest_fits = rw u.is at fit; same = ap (flow s p around known C) u.is }

  module _ (left next : ℕ) (inv : Blocking left next) where
    pub block_done : left ≤ 0 → CodedAt Block s p t c d at (Ok next)
    unfolding Blocking CodedAt CheckedAt checked_to block_of flow
    block_done none code around known C x end st h fit =
        let u = inv around known C x end code st h fit in
        let v = many_none _ left next u.rest_read none in
        let ne : next ≡ end = sym v.1 in
        rw (u.same, v.0, ne) refl

    module _ (some : 0 < left) where
      pub block_refused : (e : Refused) (r : Result ℕ Refused) → CheckedAt s p t c (d - 1) next (Err e) → IsErrAnd r (λ y. y ≡ e) → CodedAt Block s p t c d at r
      unfolding Blocking CodedAt CheckedAt block_of flow
      block_refused e r f q code around known C x end st h fit =
          let u = inv around known C x end code st h fit in
          let v = many_more _ left next u.rest_read some in
          let w = block_fits s p around v.head v.tail (rw v.is at u.rest_fits) in
          rw (u.same, v.is) (passed_on _ _ v.mid end e r (f around known C v.head v.mid st v.head_read w.0) q)

      pub block_more : (m : ℕ) → CheckedAt s p t c (d - 1) next (Ok m) → Blocking (left - 1) m
      unfolding Blocking CheckedAt block_of flow
      block_more m f around known C x end code st h fit =
          let u = inv around known C x end code st h fit in
          let v = many_more _ left next u.rest_read some in
          let w = block_fits s p around v.head v.tail (rw v.is at u.rest_fits) in
          let g = f around known C v.head v.mid st v.head_read w.0 in
          let k : m ≡ v.mid = reached_is _ fine m v.mid g in
          record {
            rest = v.tail;
            rest_read = rw k v.tail_read;
            rest_fits = w.1;
            same = u.same ∙ ap (λ (ys : List Stmt). flow s p around known C (block_of ys)) v.is ∙ or_reached _ (flow s p around known C (block_of v.tail)) m v.mid g;
          }

    block_skip : (m : ℕ) (b : Bool) → 0 < left → b ≡ eqb (byte p next) 0 → b ≡ true → m ≡ ahead p next 1 → Blocking (left - 1) m
    block_skip m b some e h k = block_more some m (branch_skip s p t c (d - 1) next m b e h k)

  -- skips in a row
  skip_blocked : (left next : ℕ) → Blocking left next → 0 < left → next < length p → byte p next ≡ 0 → Blocking (left - 1) (next + 1)
  skip_blocked left next inv some l z = let found : true ≡ eqb (byte p next) 0 = rw z in block_skip left next inv (next + 1) true some found refl (sym (ahead_is p next 1 (omega arith)))

  pub block_row : (left next : ℕ) → Blocking left next → (b : Bool) (m n q : ℕ) → 0 < left → b ≡ eqb (byte p next) 0 → b ≡ true → m ≡ ahead p next 1 → Skips p m n → n ≤ left - 1 → q ≡ m + n
      → Blocking (left - 1 - n) q
  block_row left next inv b m n q some e h k row few q-is = rw q-is (over_row p Blocking skip_blocked m n (left - 1) row (block_skip left next inv m b some e h k) few)

  -- an if, a while
  module _ (q : ℕ) (l : Context) (next : ℕ) (r : Result ℕ Refused) (e : q ≡ ahead p at 1) (f : JoinedAt p q c.context l next) where
    pub if_checked : PairAt s p t (carried c.around l) (d - 1) next r → CodedAt If s p t c d at r
    unfolding CodedAt CheckedAt PairAt flow
    if_checked h code around known C x end st i fit =
        let u = if_parts p (principals s) (roles s) (variables p) d at i code in
        let qe : q ≡ at + 1 = e ∙ ahead_is p at 1 (omega (arith, stmt_there p (principals s) (roles s) (variables p) d at i)) in
        let w = rw u.is at fit.0 in
        let (le, b) = joined_is st q l next u.test u.start f (rw qe u.test_read) w.0 in
        let (wl, wr) = writes_if around u.test u.left u.right (rw u.is at fit.1) in
        rw u.is
        (h around known (λ side. expr_label p side u.test ++ C side) u.left u.right u.mid end
        (stands_context st _ b (free_expr s p known C around u.test w.0)) (rw le u.left_read) (w.1, wl) u.right_read (w.2, wr))

    pub while_checked : CheckedAt s p t (carried c.around l) (d - 1) next r → CodedAt While s p t c d at r
    unfolding CodedAt CheckedAt flow
    while_checked h code around known C x end st i fit =
        let u = while_parts p (principals s) (roles s) (variables p) d at i code in
        let qe : q ≡ at + 1 = e ∙ ahead_is p at 1 (omega (arith, stmt_there p (principals s) (roles s) (variables p) d at i)) in
        let w = rw u.is at fit.0 in
        let (le, b) = joined_is st q l next u.test u.start f (rw qe u.test_read) w.0 in
        let wb = writes_while around u.test u.body (rw u.is at fit.1) in
        rw u.is
        (h around known (λ side. expr_label p side u.test ++ C side) u.body end
        (stands_context st _ b (free_expr s p known C around u.test w.0)) (rw le u.body_read) (w.1, wb))

  -- a query
  pub query_outside : (a : Labels) (r : Refused) → c.around ≡ Outside a → r.word ≡ refusal 15 at → CodedAt Query s p t c d at (Err r)
  unfolding CodedAt CheckedAt flow checked_to
  query_outside a r e re code around known C x end st h fit =
      let u = branch_parts p (principals s) (roles s) (variables p) d at h code in
      rw (u.is, (within_none p (roles s) (variables p) c.around around a st.surrounded e).0) (stopped_tells r 15 at re (low_start st d at h))

  module _ (a : CodeTransaction) (e : c.around ≡ Inside a) (m n : ℕ) (l : Bool) (w : m ≡ ahead p at 1) (ne : n ≡ a.count) (listed : ListedAt p n a.list m l) where
    listed_is : (asked : ModelQuery) (qs : List ModelQuery) (end after : ℕ) → at + 1 + 2 ≤ length p → read_many (read_query p (roles s)) a.count a.list ≡ got qs end → read_query p (roles s) (at + 1) ≡ got asked after → l ≡ listed_in asked qs
    unfolding ListedAt
    listed_is asked qs end after room h k =
        let me : m ≡ at + 1 = w ∙ ahead_is p at 1 (omega arith) in
        listed (roles s) qs asked end after (rw ne h) (rw me k)

    pub query_unlisted : (r : Refused) → l ≡ false → r.word ≡ refusal 15 at → CodedAt Query s p t c d at (Err r)
    unfolding CodedAt CheckedAt flow checked_to
    query_unlisted r k re code around known C x end st h fit =
        let u = branch_parts p (principals s) (roles s) (variables p) d at h code in
        let v = within_one p (roles s) (variables p) c.around around a st.surrounded e in
        let b = listed_is u.asked v.listed v.parts.end (at + 3) u.asked_parts.inside v.parts.listed_read u.asked_read in
        rw (u.is, v.is, sym b ∙ k) (stopped_tells r 15 at re (low_start st d at h))

    -- listed: its label is joined to the context of both branches
    module _ (le : l ≡ true) (named start : ℕ) (es : start ≡ ahead p at 3) (f : QueryRolesAt p m named) where
      abbrev asking : Carried
      asking = carried c.around (with_named c.context named)

      query_by : (r : Result ℕ Refused) → ((q : ModelQuery) (end : ℕ) → read_query p (roles s) m ≡ got q end → BranchesAt s p t asking (d - 1) start q r) → CodedAt Query s p t c d at r
      unfolding CodedAt CheckedAt BranchesAt QueryRolesAt flow
      query_by r g code around known C x end st h fit =
          let u = branch_parts p (principals s) (roles s) (variables p) d at h code in
          let v = within_one p (roles s) (variables p) c.around around a st.surrounded e in
          let b = listed_is u.asked v.listed v.parts.end (at + 3) u.asked_parts.inside v.parts.listed_read u.asked_read in
          let fits = rw u.is at fit.0 in
          let (wl, wr) = writes_query around at u.asked u.left u.right (rw u.is at fit.1) in
          let me : m ≡ at + 1 = w ∙ ahead_is p at 1 (omega (arith, u.asked_parts.inside)) in
          let asked : read_query p (roles s) m ≡ got u.asked (at + 3) = rw me u.asked_read in
          let cq : ContextIs (roles s) (with_named c.context named) (λ side. query_label side u.asked ++ C side) = rw (f (roles s) u.asked (at + 3) asked) (context_query (roles s) c.context C st.context (roles_few st) u.asked fits.0) in
          let member = listed_member (roles s) (roles_few st) u.asked v.listed fits.0 v.parts.listed_below (sym b ∙ le) in
          let se : start ≡ at + 3 = es ∙ ahead_is p at 3 (omega (arith, u.asked_parts.inside)) in
          rw (u.is, v.is, sym b ∙ le)
          (rw v.is at (g u.asked (at + 3) asked around known (λ side. query_label side u.asked ++ C side) u.left u.right u.mid end
          fits.0 (stands_context st _ cq (λ f. subst (λ a. Free s p a known (under_query u.asked C)) (sym v.is) (free_query s p v.listed v.xs v.rs known C (subst (λ a. Free s p a known C) v.is f) u.asked member))) (rw se u.left_read) (fits.1, wl) u.right_read (fits.2, wr)))

      pub query_listed : (r : Result ℕ Refused) → BranchesOf s p t asking (d - 1) start m r → CodedAt Query s p t c d at r
      unfolding BranchesOf
      query_listed r h = query_by r h

      pub query_free : (r : Result ℕ Refused) → a.free ≡ true → PairAt s p t asking (d - 1) start r → CodedAt Query s p t c d at r
      query_free r z g = query_listed r (asked_free s p t asking a (d - 1) start m r e z g)

      pub query_known : (b : Bool) (r : Result ℕ Refused) → KnownAt p t m b → b ≡ true → BothAt s p t t asking asking (d - 1) start r → CodedAt Query s p t c d at r
      query_known b r f z g = query_listed r (asked_known s p t asking (d - 1) start m b r f z g)

  -- a transaction
  pub transaction_nested : (a : CodeTransaction) (r : Refused) → c.around ≡ Inside a → r.word ≡ refusal 15 at → CodedAt Transaction s p t c d at (Err r)
  unfolding CodedAt CheckedAt flow checked_to
  transaction_nested a r e re code around known C x end st h fit =
      let u = transaction_parts p (principals s) (roles s) (variables p) d at h code in
      let w = within_one p (roles s) (variables p) c.around around a st.surrounded e in
      rw (u.is, w.is) (stopped_tells r 15 at re (low_start st d at h))

  pub transaction_body : (m : ℕ) (a : Labels) (b : Around) (r : Result ℕ Refused) → c.around ≡ Outside a → m ≡ after_list p at 2 → Enters p t a c.context (d - 1) at b
      → CheckedAt s p t (carried b c.context) (d - 1) m r → CodedAt Transaction s p t c d at r
  unfolding CodedAt CheckedAt EnteredAt flow
  transaction_body m a b r e me f g code around known C x end st h fit =
      let u = transaction_parts p (principals s) (roles s) (variables p) d at h code in
      let (w, o) = within_none p (roles s) (variables p) c.around around a st.surrounded e in
      let fits = rw u.is at fit.0 in
      let y = f.transaction in
      let v = f.entered (principals s) (roles s) (variables p) u.listed u.body end (roles_few st) st.few u.inside u.listed_read fits.0 u.body_read fits.1 in
      let held : MetBoth p t (assigned u.body) (mutated u.body) y.meets = rw (v.variables_are, v.roles_are) at f.held in
      let all = all_below (variables p) in
      let l = with_labels c.context a.readers a.trusters in
      let flows : ContextIs (roles s) (with_named l y.named) (may_flow p u.listed C) =
      subst (λ (n : ℕ). ContextIs (roles s) (with_named l n) (may_flow p u.listed C)) (sym v.named_are)
      (context_list (roles s) l _ (under_all st a all (all_fits (variables p) (variables p) (omega arith)) o.readers_are o.trusters_are) (roles_few st) u.listed fits.0) in
      let mm : m ≡ body_start p at = me ∙ list_is p at 2 u.inside in
      let inner = inside u.listed (assigned u.body) (mutated u.body) in
      rw (u.is, w)
      (g inner known C u.body end (record {
        is_accepted = st.is_accepted;
        short = st.short;
        few = st.few;
        labels = st.labels;
        knows = st.knows;
        surrounded = subst (λ (z : Around). AroundIs p (roles s) (variables p) z inner) (sym f.is) v;
        met = subst (λ (z : Around). MeetsAre p t z inner) (sym f.is) (λ _. held);
        free = λ z. free_met s p u.listed (assigned u.body) (mutated u.body) t (with_named l y.named) y.meets known C held (stands_asked st _ flows) v.variables_below v.roles_below st.few (f.free (sym (ap found_free f.is) ∙ z));
        context = st.context;
      }) (rw mm u.body_read) (fits.1, writes_body u.listed u.body))

  -- any statement
  pub stmt_none : (r : Result ℕ Refused) → d ≡ 0 → CheckedAt s p t c d at r
  unfolding CheckedAt
  stmt_none r e around known C x end st h fit = absurd (stmt_deep p (principals s) (roles s) (variables p) d at h e)

  module _ (o : Result Statement UnknownCode) (i : o ≡ statement_of (byte p at)) where
    pub stmt_unknown : (r : Result ℕ Refused) → o ≡ (Err (record {})) → CheckedAt s p t c d at r
    unfolding CheckedAt
    stmt_unknown r k around known C x end st h fit = absurd (omega (arith, statement_none (byte p at) o i k, stmt_known p (principals s) (roles s) (variables p) d at h))

    module _ (code : Statement) (j : o ≡ Ok code) where
      pub stmt_skip : (q : ℕ) → code ≡ Skip → q ≡ ahead p at 1 → CheckedAt s p t c d at (Ok q)
      stmt_skip q k e = skip_checked s p t c d at q (statement_byte_lem (byte p at) o i code j ∙ ap statement_byte k) e

      module _ (r : Result ℕ Refused) where
        pub stmt_assign : code ≡ Assign → AssignAt p t c.context at r → CheckedAt s p t c d at r
        unfolding AssignAt
        stmt_assign k f = f s c d refl (statement_byte_lem (byte p at) o i code j ∙ ap statement_byte k)

        pub stmt_update : code ≡ Update → UpdateAt s p c at r → CheckedAt s p t c d at r
        unfolding UpdateAt
        stmt_update k f = f t d (statement_byte_lem (byte p at) o i code j ∙ ap statement_byte k)

        pub stmt_coded : (one : Statement) → code ≡ one → CodedAt one s p t c d at r → CheckedAt s p t c d at r
        unfolding CodedAt
        stmt_coded one k f = f (statement_byte_lem (byte p at) o i code j ∙ ap statement_byte k)

pub ruleset statements = (stmt_none, stmt_unknown, stmt_skip, stmt_assign, stmt_coded, stmt_update)

pub ruleset blocks = (block_start, block_row, block_refused, block_more, block_done)

pub ruleset pairs = (pair_first, pair_second)

pub ruleset branches = (branches_first, branches_second)

pub ruleset queries = (query_free, query_known, query_listed, query_unlisted, query_outside)

pub ruleset learns = (learnt_none, few_roles, learnt_both)
