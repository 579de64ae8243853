-- A law for each return and each turn of lists.rt: the answer for what is left of a list is the answer for the whole.
use Rattle.std.proofs.Common.{Result, Ok, Err}
use mathlib.Core.Path.{◌≡◌, refl, sym, ap, subst, ◌∙◌}
use mathlib.Core.Logic.{⊎_elim}
use Prim.Native.Nat.{ℕ, zero, suc, ◌+◌, ◌-◌, ◌*◌, ◌/◌, ◌%◌, ◌<◌, ◌≤◌}
use mathlib.Core.List.{List}
use mathlib.Core.Bool.{Bool, true, false, cond}
use native.Mathlib.Omega.{arith}
use lib.Dec.{eqb, ltb}
use lib.ListN.{length}
use lib.Bits.{bit_or, or_zero_l, or_zero_r}
use borrow.Author.Tests.{lt-ltb, le-ltb, ltb-true, eq-eqb, ne_eqb, not-true, not-false}
use Rattle.model.specs.Limits.{role_limit}
use Rattle.model.specs.Number.{program_range}
use Rattle.model.specs.Bytes.{byte}
use Rattle.model.specs.Policy.{reading, trust, Accepted, principals, roles, HasRow, may_hold, may_take}
use Rattle.model.specs.Mutation.{Kind, addMember, deleteMember, addTaken, deleteTaken, Mutation, allowed}
use Rattle.model.specs.Syntax.{of, everyone, Atom, role, fixed, atom_byte, Query as ModelQuery}
use Rattle.model.specs.Program.{got, bad, read_byte, read_below, atom_at, read_atom, read_query, mutation_at, read_mutation}
use Rattle.model.specs.Flow.{listed_in, all_allowed}
use Rattle.model.proofs.Sets.{or_assoc}
use Rattle.model.proofs.Accepted.{accepted_head}
use Rattle.model.proofs.Rows.{row_inside}
use Rattle.model.specs.Fits.{AtomFits, QueryFits}
use Rattle.shared.specs.Words.{single}
use Rattle.program.specs.declared.codes.Atom.{Atom as CodeAtom}
use Rattle.program.specs.declared.codes.Kind.{Kind as CodeKind}
use Rattle.program.specs.declared.codes.Kind.TheVariants.{AddMember, DeleteMember, AddTaken, DeleteTaken}
use Rattle.program.specs.Codes.{atom_of, model_atom, kind_of, kind_byte}
use Rattle.program.proofs.CodeLaws.{atom_is, atom_some, kind_byte_lem, kind_none}
use Rattle.order.specs.Table.{Table, named_role, query_of, list_roles, DecidesQuery}
use Rattle.gathered.specs.Positions.{ahead}
use Rattle.gathered.proofs.PositionLaws.{ahead_is}
use Rattle.model.proofs.Standing.{then_parts, pick_parts, either_parts, same_value, byte_parts, below_parts, many_none, many_more, query_parts, queries_end, kind_code, mutation_parts, mutations_end}
use Rattle.context.specs.declared.lists.Query.{Query}
use Rattle.context.specs.Lists.{SameAt, ListedAt, QueryNames, QueryAt, KnownAt, byte_roles, QueryRolesAt, ListRolesAt, HoldsRight, TakesRight, OneAllowedAt, AllowedAt}
use Rattle.program.specs.declared.codes.UnknownCode.{UnknownCode}

-- a query that was read: its second byte stands one ahead, and the next query two ahead
module _ (p : List ℕ) (R at : ℕ) {k : ModelQuery} {end : ℕ} (e : read_query p R at ≡ got k end) where
  query_second : atom_byte k.second ≡ byte p (ahead p at 1)
  query_second = let u = query_parts p R at e in u.second_byte ∙ ap (byte p) (sym (ahead_is p at 1 (omega arith)))

  query_after : end ≡ ahead p at 2
  query_after = let u = query_parts p R at e in u.ends ∙ sym (ahead_is p at 2 u.inside)

-- one query against another
module _ (p : List ℕ) (at other : ℕ) where
  pub first_differs : (byte p other ≡ byte p at → ⊥) → SameAt p at other false
  unfolding SameAt
  first_differs h R k q end after i j =
      let u = query_parts p R at i in
      let v = query_parts p R other j in
      let n : atom_byte q.first ≡ atom_byte k.first → ⊥ = λ z. h (cc (u.first_byte, v.first_byte)) in
      simp (ne_eqb _ _ n)

  pub first_same : byte p other ≡ byte p at → SameAt p at other (eqb (byte p (other + 1)) (byte p (at + 1)))
  unfolding SameAt
  first_same h R k q end after i j =
      let u = query_parts p R at i in
      let v = query_parts p R other j in
      let z : atom_byte q.first ≡ atom_byte k.first = cc (u.first_byte, v.first_byte) in
      simp (eq-eqb _ _ z, u.second_byte, v.second_byte)

-- where the query or the list does not lie within the bytes none was read there
module _ (p : List ℕ) (at other : ℕ) where
  pub other_past : (n : ℕ) (r : Bool) → length p ≤ other → ListedAt p n at other r
  unfolding ListedAt
  other_past n r h R qs q end after e i = absurd (omega (arith, (query_parts p R other i).inside))

  pub other_short : (n : ℕ) (r : Bool) → other < length p → length p - other < 2 → ListedAt p n at other r
  unfolding ListedAt
  other_short n r l h R qs q end after e i = absurd (omega (arith, (query_parts p R other i).inside))

  pub list_past : (n : ℕ) → length p ≤ at → ListedAt p n at other false
  unfolding ListedAt listed_in
  list_past zero h R qs q end after e i = rw (many_none (read_query p R) 0 at e (omega arith)).0
  list_past (suc n) h R qs q end after e i =
      let u = many_more (read_query p R) (suc n) at e (omega arith) in absurd (omega (arith, (query_parts p R at u.head_read).inside))

  pub list_short : (n : ℕ) (r : Bool) → at < length p → (length p - at) / 2 < n → ListedAt p n at other r
  unfolding ListedAt
  list_short n r l h R qs q end after e i = absurd (omega (arith, queries_end p R n at e (omega arith)))

-- the answer for the `left` queries from `here` on is the answer for all n
module _ (p : List ℕ) (n at other : ℕ) where
  unfoldable pub Listing : ℕ → ℕ → Type 0
  Listing left here = (r : Bool) → ListedAt p left here other r → ListedAt p n at other r

  pub listing_starts : Listing n at
  unfolding Listing
  listing_starts r h = h

  module _ (left here : ℕ) (f : Listing left here) where
    pub listing_ends : left ≤ 0 → ListedAt p n at other false
    unfolding Listing ListedAt listed_in
    listing_ends h = f false (λ R qs q end after e i. rw (many_none (read_query p R) left here e h).0)

    module _ (some : 0 < left) (r : Bool) (g : SameAt p here other r) where
      pub listing_finds : r ≡ true → ListedAt p n at other true
      unfolding Listing ListedAt SameAt listed_in
      listing_finds h = f true (λ R qs q end after e i.
          let u = many_more (read_query p R) left here e some in
          rw (u.is, ← (g R u.head q u.mid after u.head_read i), h))

      pub listing_goes_on : r ≡ false → (more next : ℕ) → more ≡ left - 1 → next ≡ here + 2 → Listing more next
      unfolding Listing ListedAt SameAt listed_in
      listing_goes_on h more next me ne b l = f b (λ R qs q end after e i.
          let u = many_more (read_query p R) left here e some in
          let m = (query_parts p R here u.head_read).ends in
          rw (u.is, ← (g R u.head q u.mid after u.head_read i), h) (l R u.tail q end after (rw (me, ne, ← m) u.tail_read) i))

pub ruleset listings = (other_past, other_short, list_past, list_short, listing_starts, listing_ends, listing_finds, listing_goes_on)

-- an atom that was read names a role below the limit, by its byte
atom_at_small : (R at x next : ℕ) {a : Atom} {end : ℕ} → atom_at R at x next ≡ got a end → AtomFits role_limit a
unfolding atom_at
atom_at_small R at x next {a} {end} e =
    ⊎_elim (λ h. small (λ j. role j) x h.1 (ltb-true x 0x40 h.0))
    (λ h. ⊎_elim (λ g. small (λ j. fixed (of reading j)) (x - 0x40) g.1 (omega (arith, ltb-true x 0x80 g.0)))
    (λ h. ⊎_elim (λ g. small (λ j. fixed (of trust j)) (x - 0x80) g.1 (omega (arith, ltb-true x 0xc0 g.0)))
    (λ h. subst (AtomFits role_limit) (sym (same_value (pick_parts (eqb x 0xff) _ _ _ h.1).1).0) tt)
    (either_parts (ltb x 0xc0) _ _ h.1))
    (either_parts (ltb x 0x80) _ _ h.1))
    (either_parts (ltb x 0x40) _ _ e)
  where
    small : (f : ℕ → Atom) (j : ℕ) → cond (ltb j R) (got (f j) next) (bad program_range at) ≡ got a end → AtomFits role_limit (f j) → AtomFits role_limit a
    small f j h g = subst (AtomFits role_limit) (sym (same_value (pick_parts (ltb j R) _ _ _ h).1).0) g

atom_small : (p : List ℕ) (R at : ℕ) {a : Atom} {end : ℕ} → read_atom p R at ≡ got a end → AtomFits role_limit a
unfolding read_atom
atom_small p R at e = let u = then_parts (read_byte p at) _ e in atom_at_small R at u.value u.mid u.after

query_small : (p : List ℕ) (R at : ℕ) {q : ModelQuery} {end : ℕ} → read_query p R at ≡ got q end → QueryFits role_limit q
unfolding read_query
query_small p R at e =
    let u = then_parts (read_atom p R at) _ e in
    let v = then_parts (read_atom p R u.mid) _ u.after in
    subst (QueryFits role_limit) (sym (same_value v.after).0) (atom_small p R at u.first, atom_small p R u.mid v.first)

-- what the code takes the two bytes of a query for is that query
module _ (p : List ℕ) (at : ℕ) (o : Result CodeAtom UnknownCode) (f : o ≡ atom_of (byte p at)) where
  pub query_no_first : (r : Result Query UnknownCode) (x : UnknownCode) → o ≡ Err x → QueryAt p at r
  unfolding QueryAt
  query_no_first r x h R q end e = absurd (atom_some q.first (query_small p R at e).0 (byte p at) (query_parts p R at e).first_byte o f h)

  module _ (n : ℕ) (o' : Result CodeAtom UnknownCode) (i : n ≡ ahead p at 1) (g : o' ≡ atom_of (byte p n)) where
    second_byte : (R : ℕ) (q : ModelQuery) (end : ℕ) → read_query p R at ≡ got q end → atom_byte q.second ≡ byte p n
    second_byte R q end e = query_second p R at e ∙ ap (byte p) (sym i)

    pub query_no_second : (r : Result Query UnknownCode) (x : UnknownCode) → o' ≡ Err x → QueryAt p at r
    unfolding QueryAt
    query_no_second r x h R q end e = absurd (atom_some q.second (query_small p R at e).1 (byte p n) (second_byte R q end e) o' g h)

    pub query_both : (a b : CodeAtom) → o ≡ Ok a → o' ≡ Ok b → QueryAt p at (Ok (record { first = a; second = b }))
    unfolding QueryAt
    query_both a b h k R q end e =
        let x : model_atom a ≡ q.first = atom_is q.first (query_small p R at e).0 (byte p at) (query_parts p R at e).first_byte o f a h in
        let y : model_atom b ≡ q.second = atom_is q.second (query_small p R at e).1 (byte p n) (second_byte R q end e) o' g b k in
        record { named = record { first = a; second = b }; is = refl; stands = λ z. record { first = x z; second = y z } }

pub ruleset query_reads = (query_no_first, query_no_second, query_both)

pub query_not : {A : Type 0} (o : Result Query UnknownCode) (q : ModelQuery) (x : UnknownCode) → QueryNames o q → o ≡ Err x → A
query_not o q x u h = let z : ◌≡◌ {A = ℕ} 0 1 = cc u.is in absurd (omega arith)

pub query_is : (o : Result Query UnknownCode) (q : ModelQuery) (k : Query) → QueryNames o q → o ≡ Ok k → query_of k.first k.second ≡ q
query_is o q k u h =
    let e : k ≡ u.named = cc u.is in
    rw e u.stands

-- the byte of an atom that was read names the atom's role
byte_role : (x j : ℕ) → x < 0xc0 → x % 64 ≡ j → byte_roles x ≡ single j
unfolding byte_roles
byte_role x j h e = simp (lt-ltb _ _ h, e)

byte_names : (a : Atom) → AtomFits role_limit a → (x : ℕ) → atom_byte a ≡ x → byte_roles x ≡ named_role a
unfolding byte_roles
byte_names (role j) fit x e = byte_role x j (omega arith) (omega arith)
byte_names (fixed (of reading j)) fit x e = byte_role x j (omega arith) (omega arith)
byte_names (fixed (of trust j)) fit x e = byte_role x j (omega arith) (omega arith)
byte_names (fixed everyone) fit x e = rw (← e)

module _ (b : ℕ) where
  pub byte_some : (i r : ℕ) → b < 0xc0 → i ≡ b → r ≡ single (i % 64) → r ≡ byte_roles b
  unfolding byte_roles
  byte_some i r h e f = f ∙ rw e (simp (lt-ltb _ _ h))

  pub byte_none : 0xc0 ≤ b → 0 ≡ byte_roles b
  unfolding byte_roles
  byte_none h = simp (le-ltb _ _ h)

-- the roles named in one query
module _ (p : List ℕ) (at : ℕ) where
  pub named_past : (r : ℕ) → length p ≤ at → QueryRolesAt p at r
  unfolding QueryRolesAt
  named_past r h R q end e = absurd (omega (arith, (query_parts p R at e).inside))

  pub named_short : (r : ℕ) → at < length p → length p - at < 2 → QueryRolesAt p at r
  unfolding QueryRolesAt
  named_short r l h R q end e = absurd (omega (arith, (query_parts p R at e).inside))

  pub named_both : (x y : ℕ) → x ≡ byte_roles (byte p at) → y ≡ byte_roles (byte p (at + 1)) → QueryRolesAt p at (bit_or x y)
  unfolding QueryRolesAt
  named_both x y f g R q end e =
      let u = query_parts p R at e in
      let v = query_small p R at e in
      rw (f, g, byte_names q.first v.0 (byte p at) u.first_byte, byte_names q.second v.1 (byte p (at + 1)) u.second_byte)

pub ruleset query_names = (named_past, named_short, named_both)

-- whether the table knows one query already
module _ (p : List ℕ) (t : Table) (at : ℕ) (o : Result Query UnknownCode) (f : QueryAt p at o) where
  pub known_none : (x : UnknownCode) → o ≡ Err x → KnownAt p t at false
  unfolding QueryAt KnownAt
  known_none x h R q end e = query_not o q x (f R q end e) h

  pub known_is : (k : Query) (r : Bool) → o ≡ Ok k → DecidesQuery t (query_of k.first k.second) r → KnownAt p t at r
  unfolding QueryAt KnownAt
  known_is k r h g R q end e = same (query_is o q k (f R q end e) h) g
    where
      same : {q q' : ModelQuery} → q ≡ q' → DecidesQuery t q r → DecidesQuery t q' r
      same e g = rw (← e) g

pub ruleset known_queries = (known_none, known_is)

-- the roles found so far, with those of the `left` queries from `here` on, are the roles of all n
module _ (p : List ℕ) (n at : ℕ) where
  unfoldable pub Naming : ℕ → ℕ → ℕ → Type 0
  Naming found left here = (r : ℕ) → ListRolesAt p left here r → ListRolesAt p n at (bit_or found r)

  pub naming_starts : Naming 0 n at
  unfolding Naming
  naming_starts r h = rw (or_zero_l r) h

  module _ (found left here : ℕ) (f : Naming found left here) where
    pub naming_ends : left ≤ 0 → ListRolesAt p n at found
    unfolding Naming ListRolesAt list_roles
    naming_ends h = rw or_zero_r at (f 0 (λ R qs end e. rw (many_none (read_query p R) left here e h).0))

    pub naming_goes_on : (r more next : ℕ) → 0 < left → more ≡ left - 1 → QueryRolesAt p here r → next ≡ ahead p here 2 → Naming (bit_or found r) more next
    unfolding Naming ListRolesAt QueryRolesAt list_roles
    naming_goes_on r more next some me g e b l = rw or_assoc (f (bit_or r b) (λ R qs end d.
        let u = many_more (read_query p R) left here d some in
        let m : u.mid ≡ next = query_after p R here u.head_read ∙ sym e in
        rw (u.is, g R u.head u.mid u.head_read, l R u.tail end (rw (me, ← m) u.tail_read))))

pub ruleset namings = (naming_starts, naming_ends, naming_goes_on)

-- a role that there is has its row
pub row_there : (s : List ℕ) → Accepted s → (n i j : ℕ) → n ≡ roles s → i ≡ j → j < n → HasRow s i
row_there s ok n i j e f h = row_inside s (accepted_head s ok) i (rw (f, ← e) h)

-- whether role i may hold the principal x, which the code has as wider numbers j and y
module _ (s : List ℕ) (i x : ℕ) where
  pub hold_none : (n : ℕ) → n ≡ roles s → n ≤ i → HoldsRight s i x false
  unfolding HoldsRight
  hold_none n e h l = absurd (omega arith)

  pub hold_is : (j y : ℕ) (r : Bool) → j ≡ i → y ≡ x → r ≡ may_hold s j y → HoldsRight s i x r
  unfolding HoldsRight
  hold_is j y r e f h l = rw (e, f) at h

pub ruleset holds_laws = (hold_none, hold_is)

-- whether role i may take in role j, which the code has as wider numbers a and b
module _ (s : List ℕ) (i j : ℕ) where
  pub take_none : (n : ℕ) → n ≡ roles s → n ≤ i → TakesRight s i j false
  unfolding TakesRight
  take_none n e h l m = absurd (omega arith)

  pub take_no_other : (n : ℕ) → n ≡ roles s → n ≤ j → TakesRight s i j false
  unfolding TakesRight
  take_no_other n e h l m = absurd (omega arith)

  pub take_is : (a b : ℕ) (r : Bool) → a ≡ i → b ≡ j → r ≡ may_take s a b → TakesRight s i j r
  unfolding TakesRight
  take_is a b r e f h l m = rw (e, f) at h

pub ruleset takes_laws = (take_none, take_no_other, take_is)

-- a taken role that was read is one that there is
taken_fits : (p : List ℕ) (P R at : ℕ) {m : Mutation} {end : ℕ} → read_mutation p P R at ≡ got m end → byte p at ≡ 2 → m.operand < R
unfolding read_mutation mutation_at
taken_fits p P R at e c =
    let k = then_parts (read_byte p at) _ e in
    let b = byte_parts p at k.first in
    let u = then_parts (read_below p R (at + 1)) _ (rw (b.1, b.2, c) at k.after) in
    let v = then_parts (read_below p R u.mid) _ u.after in
    rw (same_value v.after).0 (below_parts p u.mid R v.first).2

-- what is allowed, by the code of the kind
module _ (s : List ℕ) (i x : ℕ) where
  by_member : (k : Kind) → kind_code k ≡ 0 → may_hold s i x ≡ allowed s k i x
  unfolding allowed
  by_member addMember e = refl
  by_member deleteMember e = absurd (omega arith)
  by_member addTaken e = absurd (omega arith)
  by_member deleteTaken e = absurd (omega arith)

  by_taken : (k : Kind) → kind_code k ≡ 2 → may_take s i x ≡ allowed s k i x
  unfolding allowed
  by_taken addMember e = absurd (omega arith)
  by_taken deleteMember e = absurd (omega arith)
  by_taken addTaken e = refl
  by_taken deleteTaken e = absurd (omega arith)

  by_deletion : (k : Kind) → (kind_code k ≡ 0 → ⊥) → (kind_code k ≡ 2 → ⊥) → true ≡ allowed s k i x
  unfolding allowed
  by_deletion addMember n m = absurd (n refl)
  by_deletion deleteMember n m = refl
  by_deletion addTaken n m = absurd (m refl)
  by_deletion deleteTaken n m = refl

-- one mutation that was read
module _ (s p : List ℕ) (at : ℕ) where
  deleted : (byte p at ≡ 0 → ⊥) → (byte p at ≡ 2 → ⊥) → OneAllowedAt s p at true
  unfolding OneAllowedAt
  deleted n m o end c =
      let u = mutation_parts p (principals s) (roles s) at c in
      by_deletion s o.role o.operand o.kind (λ e. n (sym u.kind_byte_lem ∙ e)) (λ e. m (sym u.kind_byte_lem ∙ e))

  member_added : (r : Bool) → byte p at ≡ 0 → HoldsRight s (byte p (at + 1)) (byte p (at + 2)) r → OneAllowedAt s p at r
  unfolding OneAllowedAt HoldsRight
  member_added r z l o end c =
      let u = mutation_parts p (principals s) (roles s) at c in
      rw (← u.role_byte, ← u.operand_byte) at l u.role_fits ∙ by_member s o.role o.operand o.kind (u.kind_byte_lem ∙ z)

  taken_added : (r : Bool) → byte p at ≡ 2 → TakesRight s (byte p (at + 1)) (byte p (at + 2)) r → OneAllowedAt s p at r
  unfolding OneAllowedAt TakesRight
  taken_added r z l o end c =
      let u = mutation_parts p (principals s) (roles s) at c in
      rw (← u.role_byte, ← u.operand_byte) at l u.role_fits (taken_fits p (principals s) (roles s) at c z) ∙ by_taken s o.role o.operand o.kind (u.kind_byte_lem ∙ z)

-- the same by the kind that the code read
module _ (s p : List ℕ) (at : ℕ) (o : Result CodeKind UnknownCode) (e : o ≡ kind_of (byte p at)) where
  pub no_kind_allowed : (x : UnknownCode) → o ≡ Err x → OneAllowedAt s p at true
  no_kind_allowed x h = let l = kind_none (byte p at) o e h in deleted s p at (λ z. omega (arith, l)) (λ z. omega (arith, l))

  module _ (k : CodeKind) (h : o ≡ Ok k) where
    known_byte : {n : ℕ} → kind_byte k ≡ n → byte p at ≡ n
    known_byte z = kind_byte_lem (byte p at) o e k h ∙ z

    pub deletes_member : k ≡ DeleteMember → OneAllowedAt s p at true
    deletes_member z = let b = known_byte (ap kind_byte z) in deleted s p at (λ y. omega (arith, b)) (λ y. omega (arith, b))

    pub deletes_taken : k ≡ DeleteTaken → OneAllowedAt s p at true
    deletes_taken z = let b = known_byte (ap kind_byte z) in deleted s p at (λ y. omega (arith, b)) (λ y. omega (arith, b))

    pub adds_member : (r : Bool) → k ≡ AddMember → HoldsRight s (byte p (at + 1)) (byte p (at + 2)) r → OneAllowedAt s p at r
    adds_member r z = member_added s p at r (known_byte (ap kind_byte z))

    pub adds_taken : (r : Bool) → k ≡ AddTaken → TakesRight s (byte p (at + 1)) (byte p (at + 2)) r → OneAllowedAt s p at r
    adds_taken r z = taken_added s p at r (known_byte (ap kind_byte z))

pub ruleset alloweds = (no_kind_allowed, deletes_member, deletes_taken, adds_member, adds_taken)

-- where the list does not lie within the bytes no mutations were read
pub allowing_past : (s p : List ℕ) (n at : ℕ) → length p ≤ at → AllowedAt s p n at true
unfolding AllowedAt all_allowed
allowing_past s p zero at h ms end ok e = rw (many_none (read_mutation p (principals s) (roles s)) 0 at e (omega arith)).0
allowing_past s p (suc n) at h ms end ok e =
    let u = many_more (read_mutation p (principals s) (roles s)) (suc n) at e (omega arith) in
    absurd (omega (arith, (mutation_parts p (principals s) (roles s) at u.head_read).inside))

pub allowing_short : (s p : List ℕ) (n at : ℕ) (r : Bool) (m : ℕ) → at < length p → m ≡ n → length p - at < 3 * m → AllowedAt s p n at r
unfolding AllowedAt
allowing_short s p n at r m l k h ms end ok e = absurd (omega (arith, mutations_end p (principals s) (roles s) n at e (omega arith)))

-- the answer for the `left` mutations from `here` on is the answer for all n
module _ (s p : List ℕ) (n at : ℕ) where
  unfoldable pub Allowing : ℕ → ℕ → Type 0
  Allowing left here = (r : Bool) → AllowedAt s p left here r → AllowedAt s p n at r

  pub allowing_starts : Allowing n at
  unfolding Allowing
  allowing_starts r h = h

  module _ (left here : ℕ) (f : Allowing left here) where
    pub allowing_ends : left ≤ 0 → AllowedAt s p n at true
    unfolding Allowing AllowedAt all_allowed
    allowing_ends h = f true (λ ms end ok e. rw (many_none (read_mutation p (principals s) (roles s)) left here e h).0)

    module _ (some : 0 < left) (r : Bool) (g : OneAllowedAt s p here r) where
      pub allowing_stops : r ≡ false → AllowedAt s p n at false
      unfolding Allowing AllowedAt OneAllowedAt all_allowed
      allowing_stops h = f false (λ ms end ok e.
          let u = many_more (read_mutation p (principals s) (roles s)) left here e some in
          rw (u.is, ← (g u.head u.mid u.head_read), h))

      pub allowing_goes_on : r ≡ true → (more next : ℕ) → more ≡ left - 1 → next ≡ here + 3 → Allowing more next
      unfolding Allowing AllowedAt OneAllowedAt all_allowed
      allowing_goes_on h more next me ne b l = f b (λ ms end ok e.
          let u = many_more (read_mutation p (principals s) (roles s)) left here e some in
          let m = (mutation_parts p (principals s) (roles s) here u.head_read).ends in
          rw (u.is, ← (g u.head u.mid u.head_read), h) (l u.tail end ok (rw (me, ne, ← m) u.tail_read)))

pub ruleset allowings = (allowing_past, allowing_short, allowing_starts, allowing_ends, allowing_stops, allowing_goes_on, not-true, not-false)
