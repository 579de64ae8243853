-- A law for each return of writes.rt, and the loops: what was gathered, with what is left to walk, is the whole.
use Rattle.std.proofs.Common.{Result, Ok, Err}
use mathlib.Core.Path.{◌≡◌, refl, sym, ap, ◌∙◌}
use Prim.Native.Nat.{ℕ, zero, suc, ◌+◌, ◌-◌, ◌*◌, ◌/◌, ◌^◌, ◌%◌, ◌<◌, ◌≤◌}
use mathlib.Core.List.{List, []}
use mathlib.Core.Bool.{Bool, true}
use native.Mathlib.Omega.{arith}
use lib.ListN.{length, get_or, drop, take}
use Rattle.std.specs.List.{slice_range}
use Rattle.std.specs.Simd.{first_chunks}
use Rattle.std.proofs.lemmas.List.{get_or-take, get_or-drop}
use lib.Dec.{eqb}
use borrow.Author.Tests.{eqb-true}
use lib.Bits.{bit_or, or_zero_l, or_zero_r, or_comm}
use Rattle.model.specs.Limits.{role_limit, expression_depth}
use Rattle.model.specs.Bytes.{byte}
use Rattle.model.specs.Sets.{with}
use Rattle.model.specs.Mutation.{Mutation}
use Rattle.model.specs.Syntax.{Stmt, block}
use Rattle.model.specs.Program.{got, read_many, read_mutation, read_stmt, block_of}
use Rattle.model.specs.Flow.{assigned, roles_of, mutated}
use Rattle.shared.specs.Words.{single}
use Rattle.shared.proofs.SetLaws.{single_is}
use Rattle.program.specs.declared.codes.Statement.{Statement}
use Rattle.program.specs.declared.codes.Statement.TheVariants.{Skip, Assign, Block, If, While, Query, Update, Transaction}
use Rattle.program.specs.Codes.{statement_of, statement_byte}
use Rattle.program.proofs.CodeLaws.{statement_byte_lem, statement_none}
use Rattle.gathered.specs.Positions.{ahead, after_list, ExprEnds}
use Rattle.gathered.specs.Writes.{Fit, writes_added, WritesAt, AssignWrites, PairWrites, BlockWrites, UpdateWrites}
use Rattle.model.proofs.Standing.{many_none, many_more, mutation_parts, mutations_end, stmt_deep, stmt_there, stmt_known, skip_parts, assign_parts, block_parts, if_parts, while_parts, branch_parts, update_parts, transaction_parts}
use Rattle.gathered.proofs.PositionLaws.{ahead_is, list_is}
use Rattle.gathered.specs.declared.writes.Writes.{Writes}
use Rattle.gathered.proofs.AddedLaws.{added_both}
use Rattle.model.proofs.Sets.{or_assoc}
use Rattle.program.specs.declared.codes.UnknownCode.{UnknownCode}

-- the mutations of an update that are left, and the roles of those before
pub record Mutated (p : List ℕ) (P R left next roles : ℕ) (ms : List Mutation) (end : ℕ) : Type 0 where
  pub rest : List Mutation
  pub rest_read : read_many (read_mutation p P R) left next ≡ got rest end
  pub roles_are : bit_or roles (roles_of rest) ≡ roles_of ms

unfoldable pub Mutating : List ℕ → ℕ → ℕ → ℕ → ℕ → Type 0
Mutating p at left next roles =
    (P R : ℕ) → R ≤ role_limit → at < length p → (ms : List Mutation) (end : ℕ) → read_many (read_mutation p P R) (byte p at) (at + 1) ≡ got ms end → Mutated p P R left next roles ms end

-- a byte of one of the triples of a list
triple_byte : (k i j : ℕ) (xs : List ℕ) → i < k → j < 3 → get_or (get_or (first_chunks 3 k xs) i []) j 0 ≡ get_or xs (3 * i + j) 0
triple_byte zero i j xs h g = absurd (omega arith)
triple_byte (suc k) zero j xs h g = let e : 3 * 0 + j ≡ j = omega arith in rw e (get_or-take 3 xs j 0 g)
triple_byte (suc k) (suc i) j xs h g =
    let e : 3 * suc i + j ≡ 3 + (3 * i + j) = omega arith in
    rw e (triple_byte k i j (drop 3 xs) (omega arith) g ∙ get_or-drop 3 xs (3 * i + j) 0)

-- n triples that are the bytes from a position on; in one that is a mutation the role comes second
pub record Triples (p : List ℕ) (at n : ℕ) (ms : List (List ℕ)) : Type 0 where
  pub many : length ms ≡ n
  pub roles : (i : ℕ) → i < n → get_or (get_or ms i []) 1 0 ≡ byte p (at + 3 * i + 1)

pub triples : (p : List ℕ) (at n : ℕ) (xs : List ℕ) (ms : List (List ℕ)) → xs ≡ slice_range p at (at + 3 * n) → length xs + at ≡ at + 3 * n → length ms ≡ length xs / 3 → ms ≡ first_chunks 3 (length xs / 3) xs → Triples p at n ms
triples p at n xs ms e long many f =
    let m : at + 3 * n - at ≡ 3 * n = omega arith in
    let l : length xs / 3 ≡ n = omega arith in
    let u : ms ≡ first_chunks 3 n (take (3 * n) (drop at p)) = rw (l, e, m) at f in
    record {
      many = many ∙ l;
      roles = λ i h.
          let z : 3 * i + 1 < 3 * n = omega arith in
          let y : at + (3 * i + 1) ≡ at + 3 * i + 1 = omega arith in
          rw (u, ← y) (triple_byte n i 1 (take (3 * n) (drop at p)) h (omega arith) ∙ get_or-take (3 * n) (drop at p) (3 * i + 1) 0 z ∙ get_or-drop at p (3 * i + 1) 0);
    }

-- where the list does not lie within the bytes no mutations were read
module _ (p : List ℕ) (at : ℕ) (w v : Writes) (r : ℕ) where
  pub mutations_past : length p ≤ at → UpdateWrites p at w v r
  unfolding UpdateWrites
  mutations_past h P R few l ms end e = absurd (omega arith)

  pub mutations_short : (n : ℕ) → n ≡ byte p at → length p - (at + 1) < 3 * n → UpdateWrites p at w v r
  unfolding UpdateWrites
  mutations_short n e h P R few l ms end g = absurd (omega (arith, mutations_end p P R (byte p at) (at + 1) g (omega arith)))

module _ (p : List ℕ) (at n : ℕ) (ms : List (List ℕ)) (t : Triples p (at + 1) n ms) where
  pub mutating_start : n ≡ byte p at → Mutating p at (length ms - 0) (at + 1 + 3 * 0) 0
  unfolding Mutating
  mutating_start e P R few l xs end h =
      let z : length ms - 0 ≡ byte p at = omega (arith, t.many, e) in
      let y : at + 1 + 3 * 0 ≡ at + 1 = omega arith in
      record { rest = xs; rest_read = rw (z, y) h; roles_are = or_zero_l (roles_of xs) }

  module _ (i roles : ℕ) (inv : Mutating p at (length ms - i) (at + 1 + 3 * i) roles) where
    pub mutating_more : (role word : ℕ) → i < length ms → role ≡ get_or (get_or ms i []) 1 0 → word ≡ with roles (role % 64) → Mutating p at (length ms - (i + 1)) (at + 1 + 3 * (i + 1)) word
    unfolding Mutating roles_of
    mutating_more role word some r f P R few l xs end h =
        let u = inv P R few l xs end h in
        let next = at + 1 + 3 * i in
        let v = many_more (read_mutation p P R) (length ms - i) next u.rest_read (omega arith) in
        let m = mutation_parts p P R next v.head_read in
        let b : role ≡ byte p (next + 1) = r ∙ t.roles i (omega (arith, t.many)) in
        let j : role % 64 ≡ v.head.role = omega (arith, b, m.role_byte, m.role_fits) in
        let k : length ms - (i + 1) ≡ length ms - i - 1 = omega arith in
        let o : at + 1 + 3 * (i + 1) ≡ next + 3 = omega arith in
        record {
          rest = v.tail;
          rest_read = rw (k, o, ← m.ends) v.tail_read;
          roles_are = rw (f, j) (or_assoc roles (2 ^ v.head.role) (roles_of v.tail) ∙ rw (or_comm (2 ^ v.head.role) (roles_of v.tail)) (rw v.is at u.roles_are));
        }

    pub mutating_done : (w : Writes) → i ≤ length ms → length ms ≤ i → UpdateWrites p at w (record w { roles = bit_or w.roles roles }) (at + 1 + 3 * n)
    unfolding Mutating UpdateWrites roles_of assigned mutated
    mutating_done w some none P R few l xs end h =
        let u = inv P R few l xs end h in
        let v = many_none (read_mutation p P R) (length ms - i) (at + 1 + 3 * i) u.rest_read (omega arith) in
        let z : roles ≡ roles_of xs = sym (or_zero_r roles) ∙ rw v.0 at u.roles_are in
        let k : i ≡ n = omega (arith, t.many) in
        (rw k at (sym v.1), rw (or_zero_l w.variables, or_comm w.roles roles, z))

pub ruleset mutatings = (triples, mutations_past, mutations_short, mutating_start, mutating_more, mutating_done)

-- the statements of a block that are left: what they add to the words as they are is what all add
pub record Gathered (p : List ℕ) (P R vars d left next : ℕ) (w v : Writes) (xs : List Stmt) (end : ℕ) : Type 0 where
  pub rest : List Stmt
  pub rest_read : read_many (read_stmt p P R vars d) left next ≡ got rest end
  pub words_are : writes_added (block_of rest) v ≡ writes_added (block_of xs) w

unfoldable pub Gathering : List ℕ → ℕ → ℕ → Writes → ℕ → ℕ → Writes → Type 0
Gathering p d at w left next v =
    (P R vars : ℕ) → Fit R vars → at < length p → (xs : List Stmt) (end : ℕ) → read_many (read_stmt p P R vars d) (byte p at) (at + 1) ≡ got xs end → Gathered p P R vars d left next w v xs end

-- two statements, what the second writes added to what the first does
added_block : (a b : Stmt) (w : Writes) → writes_added b (writes_added a w) ≡ writes_added (block a b) w
unfolding assigned mutated
added_block a b w = rw (added_both (assigned a) (assigned b) w.variables, added_both (mutated a) (mutated b) w.roles)

-- nothing added
none_added : (w : Writes) → w ≡ record { variables = bit_or 0 w.variables; roles = bit_or 0 w.roles }
none_added w = rw (or_zero_l w.variables, or_zero_l w.roles)

-- a skip adds nothing
skip_writes : (p : List ℕ) (d at next : ℕ) (w : Writes) → byte p at ≡ 0 → next ≡ ahead p at 1 → WritesAt p d at w w next
unfolding WritesAt assigned mutated
skip_writes p d at next w code q P R vars fit x end h =
    let u = skip_parts p P R vars d at h code in
    (q ∙ ahead_is p at 1 (omega (arith, stmt_there p P R vars d at h)) ∙ sym u.1, rw u.0 (none_added w))

pub branch_skip : (p : List ℕ) (d at next : ℕ) (w : Writes) (b : Bool) → b ≡ eqb (byte p at) 0 → b ≡ true → next ≡ ahead p at 1 → WritesAt p d at w w next
branch_skip p d at next w b e t q = skip_writes p d at next w (eqb-true (byte p at) 0 (sym e ∙ t)) q

module _ (p : List ℕ) (d at : ℕ) where
  module _ (w : Writes) where
    pub gathering_start : (n next : ℕ) → n ≡ byte p at → next ≡ ahead p at 1 → Gathering p d at w (n - 0) next w
    unfolding Gathering
    gathering_start n next e f P R vars fit l xs end h =
        let z : n - 0 ≡ byte p at = omega (arith, e) in
        record { rest = xs; rest_read = rw (z, f, ahead_is p at 1 (omega arith)) h; words_are = refl }

    module _ (n i next : ℕ) (v : Writes) (inv : Gathering p d at w (n - i) next v) where
      pub gathering_more : (t : Writes) (m : ℕ) → i < n → WritesAt p d next v t m → Gathering p d at w (n - (i + 1)) m t
      unfolding Gathering WritesAt block_of
      gathering_more t m some f P R vars fit l xs end h =
          let u = inv P R vars fit l xs end h in
          let s = many_more (read_stmt p P R vars d) (n - i) next u.rest_read (omega arith) in
          let z = f P R vars fit s.head s.mid s.head_read in
          let k : n - (i + 1) ≡ n - i - 1 = omega arith in
          record {
            rest = s.tail;
            rest_read = rw (k, z.0) s.tail_read;
            words_are = rw z.1 (added_block s.head (block_of s.tail) v ∙ rw s.is at u.words_are);
          }

      pub gathering_skip : (m : ℕ) (b : Bool) → i < n → b ≡ eqb (byte p next) 0 → b ≡ true → m ≡ ahead p next 1 → Gathering p d at w (n - (i + 1)) m v
      gathering_skip m b some e t q = gathering_more v m some (branch_skip p d next m v b e t q)

      pub gathering_done : n ≤ i → BlockWrites p d at w v next
      unfolding Gathering BlockWrites block_of assigned mutated
      gathering_done none P R vars fit l xs end h =
          let u = inv P R vars fit l xs end h in
          let s = many_none (read_stmt p P R vars d) (n - i) next u.rest_read (omega arith) in
          (sym s.1, none_added v ∙ rw s.0 at u.words_are)

  -- two statements
  pub pair_both : (w t v : Writes) (mid r : ℕ) → WritesAt p d at w t mid → WritesAt p d mid t v r → PairWrites p d at w v r
  unfolding WritesAt PairWrites
  pair_both w t v mid r f g P R vars fit x y m end h k =
      let i = f P R vars fit x m h in
      let j = g P R vars fit y end (rw i.0 k) in
      (j.0, j.1 ∙ rw i.1)

  -- a statement, by its code
  pub writes_none : (w v : Writes) (r : ℕ) → d ≡ 0 → WritesAt p d at w v r
  unfolding WritesAt
  writes_none w v r z P R vars fit x end h = absurd (stmt_deep p P R vars d at h z)

  module _ (o : (Result Statement UnknownCode)) (i : o ≡ statement_of (byte p at)) where
    pub writes_unknown : (w v : Writes) (r : ℕ) → o ≡ (Err (record {})) → WritesAt p d at w v r
    unfolding WritesAt
    writes_unknown w v r k P R vars fit x end h = absurd (omega (arith, statement_none (byte p at) o i k, stmt_known p P R vars d at h))

    module _ (c : Statement) (j : o ≡ Ok c) where
      pub writes_assign : (w v : Writes) (r : ℕ) → c ≡ Assign → AssignWrites p at w v r → WritesAt p d at w v r
      unfolding AssignWrites
      writes_assign w v r k f = f d (statement_byte_lem (byte p at) o i c j ∙ ap statement_byte k)

      module _ (next : ℕ) (q : next ≡ ahead p at 1) where
        pub writes_skip : (w : Writes) → c ≡ Skip → WritesAt p d at w w next
        writes_skip w k = skip_writes p d at next w (statement_byte_lem (byte p at) o i c j ∙ ap statement_byte k) q

        pub writes_block : (w v : Writes) (r : ℕ) → c ≡ Block → BlockWrites p (d - 1) next w v r → WritesAt p d at w v r
        unfolding WritesAt BlockWrites
        writes_block w v r k f P R vars fit x end h =
            let u = block_parts p P R vars d at h (statement_byte_lem (byte p at) o i c j ∙ ap statement_byte k) in
            let m : next ≡ at + 1 = q ∙ ahead_is p at 1 (omega arith) in
            let n : at + 1 + 1 ≡ at + 2 = omega arith in
            rw u.is (f P R vars fit (omega arith) u.parts end (rw (m, n) u.parts_read))

        pub writes_if : (m : ℕ) (w v : Writes) (r : ℕ) → c ≡ If → ExprEnds p expression_depth next m → PairWrites p (d - 1) m w v r → WritesAt p d at w v r
        unfolding WritesAt ExprEnds PairWrites assigned mutated
        writes_if m w v r k f g P R vars fit x end h =
            let u = if_parts p P R vars d at h (statement_byte_lem (byte p at) o i c j ∙ ap statement_byte k) in
            let n : next ≡ at + 1 = q ∙ ahead_is p at 1 (omega (arith, stmt_there p P R vars d at h)) in
            let y : m ≡ u.start = f vars u.test u.start (rw n u.test_read) in
            let z = g P R vars fit u.left u.right u.mid end (rw y u.left_read) u.right_read in
            (z.0, rw u.is (z.1 ∙ added_block u.left u.right w))

        pub writes_while : (m : ℕ) (w v : Writes) (r : ℕ) → c ≡ While → ExprEnds p expression_depth next m → WritesAt p (d - 1) m w v r → WritesAt p d at w v r
        unfolding WritesAt ExprEnds assigned mutated
        writes_while m w v r k f g P R vars fit x end h =
            let u = while_parts p P R vars d at h (statement_byte_lem (byte p at) o i c j ∙ ap statement_byte k) in
            let n : next ≡ at + 1 = q ∙ ahead_is p at 1 (omega (arith, stmt_there p P R vars d at h)) in
            let y : m ≡ u.start = f vars u.test u.start (rw n u.test_read) in
            rw u.is (g P R vars fit u.body end (rw y u.body_read))

        pub writes_update : (w v : Writes) (r : ℕ) → c ≡ Update → UpdateWrites p next w v r → WritesAt p d at w v r
        unfolding WritesAt UpdateWrites assigned mutated
        writes_update w v r k f P R vars fit x end h =
            let u = update_parts p P R vars d at h (statement_byte_lem (byte p at) o i c j ∙ ap statement_byte k) in
            let m : next ≡ at + 1 = q ∙ ahead_is p at 1 (omega arith) in
            let n : at + 1 + 1 ≡ at + 2 = omega arith in
            rw u.is (f P R fit.0 (omega arith) u.mutations end (rw (m, n) u.mutations_read))

      pub writes_query : (m : ℕ) (w v : Writes) (r : ℕ) → c ≡ Query → m ≡ ahead p at 3 → PairWrites p (d - 1) m w v r → WritesAt p d at w v r
      unfolding WritesAt PairWrites assigned mutated
      writes_query m w v r k l g P R vars fit x end h =
          let u = branch_parts p P R vars d at h (statement_byte_lem (byte p at) o i c j ∙ ap statement_byte k) in
          let y : m ≡ at + 3 = l ∙ ahead_is p at 3 (omega (arith, u.asked_parts.inside)) in
          let z = g P R vars fit u.left u.right u.mid end (rw y u.left_read) u.right_read in
          (z.0, rw u.is (z.1 ∙ added_block u.left u.right w))

      pub writes_transaction : (m : ℕ) (w v : Writes) (r : ℕ) → c ≡ Transaction → m ≡ after_list p at 2 → WritesAt p (d - 1) m w v r → WritesAt p d at w v r
      unfolding WritesAt assigned mutated
      writes_transaction m w v r k l f P R vars fit x end h =
          let u = transaction_parts p P R vars d at h (statement_byte_lem (byte p at) o i c j ∙ ap statement_byte k) in
          rw u.is (f P R vars fit u.body end (rw (l, list_is p at 2 u.inside) u.body_read))

-- an assignment
pub assign_writes : (p : List ℕ) (at q b x m n i : ℕ) (w : Writes) → q ≡ ahead p at 1 → b ≡ byte p q → x ≡ b → i ≡ single x → m ≡ ahead p at 2 → ExprEnds p expression_depth m n
    → AssignWrites p at w (record w { variables = bit_or w.variables i }) n
unfolding AssignWrites WritesAt ExprEnds assigned mutated
assign_writes p at q b x m n i w e₁ e₂ e₃ e₄ e₅ f d code P R vars fit y end h =
    let u = assign_parts p P R vars d at h code in
    let s : x ≡ byte p (at + 1) = e₃ ∙ e₂ ∙ ap (byte p) (e₁ ∙ ahead_is p at 1 (omega arith)) in
    let t : i ≡ with 0 (byte p (at + 1)) = e₄ ∙ ap single s ∙ single_is (byte p (at + 1)) (omega arith) ∙ sym (or_zero_l (2 ^ byte p (at + 1))) in
    (f vars u.value end (rw (e₅, ahead_is p at 2 u.inside) u.value_read), rw (u.is, or_comm w.variables i, t, or_zero_l w.roles))

pub ruleset gatherings = (gathering_start, gathering_more, gathering_skip, gathering_done)

pub ruleset writes = (writes_none, writes_unknown, writes_skip, writes_assign, writes_block, writes_if, writes_while, writes_query, writes_update, writes_transaction)
