-- A law for each return of bodies.rt, and the loop: the search in what is left of a block is the search in the whole.
use Rattle.std.proofs.Common.{Result, Ok, Err, Break, Continue}
use mathlib.Core.Path.{◌≡◌, refl, sym, ap, ◌∙◌}
use Prim.Native.Nat.{ℕ, zero, suc, ◌+◌, ◌-◌, ◌*◌, ◌<◌, ◌≤◌}
use mathlib.Core.List.{List, [], ◌∷◌, ◌++◌}
use native.Mathlib.Omega.{arith}
use lib.ListN.{length, get_or}
use Rattle.model.specs.Limits.{expression_depth}
use Rattle.model.specs.Bytes.{byte}
use Rattle.model.specs.Syntax.{Stmt}
use Rattle.model.specs.Program.{got, read_many, read_stmt, block_of}
use Rattle.model.specs.Flow.{Part, part, bodies}
use Rattle.program.specs.declared.codes.Statement.{Statement}
use Rattle.program.specs.declared.codes.Statement.TheVariants.{Skip, Assign, Block, If, While, Query, Update, Transaction}
use Rattle.program.specs.Codes.{statement_of, statement_byte}
use Rattle.program.proofs.CodeLaws.{statement_byte_lem, statement_none}
use Rattle.transactions.specs.declared.span.Span.{Span}
use Rattle.transactions.specs.declared.bodies.Passed.{Passed}
use Rattle.gathered.specs.Positions.{ahead, after_list, ExprEnds}
use Rattle.gathered.specs.declared.writes.Writes.{Writes}
use Rattle.gathered.specs.Writes.{Fit, WritesAt}
use Rattle.transactions.specs.Bodies.{Found, none_found, found_of, FoundAt, FoundInPair, FoundInBlock, FoundInBody}
use Rattle.model.proofs.Standing.{many_none, many_more, mutations_end, stmt_deep, stmt_there, stmt_known, skip_parts, assign_parts, block_parts, if_parts, while_parts, branch_parts, update_parts, transaction_parts}
use Rattle.gathered.proofs.PositionLaws.{ahead_is, list_is}
use Rattle.program.specs.declared.codes.UnknownCode.{UnknownCode}

-- the search in two lists of bodies: in the first, then in the second with what the first left
module _ (ys : List Part) (mid end : ℕ) where
  found_stop : (xs : List Part) (k : ℕ) (s : Span) → Break s ≡ found_of xs k mid → Break s ≡ found_of (xs ++ ys) k end
  unfolding found_of
  found_stop [] k s h = (cc)
  found_stop (part a b ∷ xs) zero s h = h
  found_stop (part a b ∷ xs) (suc k) s h = found_stop xs k s h

  found_on : (xs : List Part) (k : ℕ) (o : Passed) → Continue o ≡ found_of xs k mid → (o.next ≡ mid) × (found_of ys o.left end ≡ found_of (xs ++ ys) k end)
  unfolding found_of
  found_on [] k o h = let e : o ≡ record { next = mid; left = k } = (cc) in rw e (refl, refl)
  found_on (part a b ∷ xs) zero o h = (cc)
  found_on (part a b ∷ xs) (suc k) o h = found_on xs k o h

-- where the search ends: the k-th body, and the empty part where there is none
module _ (end : ℕ) where
  pub found_part : (xs : List Part) (k : ℕ) (s : Span) → Break s ≡ found_of xs k end → part s.start s.size ≡ get_or xs k (part 0 0)
  unfolding found_of
  found_part [] k s h = (cc)
  found_part (part a b ∷ xs) zero s h = let e : s ≡ record { start = a; size = b } = (cc) in rw e
  found_part (part a b ∷ xs) (suc k) s h = found_part xs k s h

  pub found_empty : (xs : List Part) (k : ℕ) (o : Passed) → Continue o ≡ found_of xs k end → part 0 0 ≡ get_or xs k (part 0 0)
  unfolding found_of
  found_empty [] k o h = refl
  found_empty (part a b ∷ xs) zero o h = (cc)
  found_empty (part a b ∷ xs) (suc k) o h = found_empty xs k o h

-- the statements of a block that are left, and the search in them
pub record Searched (p : List ℕ) (P R vars d k count next left : ℕ) (xs : List Stmt) (end : ℕ) : Type 0 where
  pub rest : List Stmt
  pub rest_read : read_many (read_stmt p P R vars d) count next ≡ got rest end
  pub same : found_of (bodies (block_of rest)) left end ≡ found_of (bodies (block_of xs)) k end

unfoldable pub Searching : List ℕ → ℕ → ℕ → ℕ → ℕ → ℕ → ℕ → Type 0
Searching p d at k count next left =
    (P R vars : ℕ) → Fit R vars → at < length p → (xs : List Stmt) (end : ℕ) → read_many (read_stmt p P R vars d) (byte p at) (at + 1) ≡ got xs end → Searched p P R vars d k count next left xs end

module _ (p : List ℕ) (d at k : ℕ) where
  pub searching_start : (n next : ℕ) → n ≡ byte p at → next ≡ ahead p at 1 → Searching p d at k (n - 0) next k
  unfolding Searching
  searching_start n next e f P R vars fit l xs end h =
      let z : n - 0 ≡ byte p at = omega (arith, e) in
      record { rest = xs; rest_read = rw (z, f, ahead_is p at 1 (omega arith)) h; same = refl }

  module _ (n i next left : ℕ) (inv : Searching p d at k (n - i) next left) where
    pub searching_done : (r : Found) → n ≤ i → r ≡ none_found next left → FoundInBlock p d at k r
    unfolding Searching FoundInBlock block_of bodies found_of
    searching_done r none f P R vars fit l xs end h =
        let u = inv P R vars fit l xs end h in
        let v = many_none (read_stmt p P R vars d) (n - i) next u.rest_read (omega arith) in
        f ∙ rw (← v.1) (rw v.0 at u.same)

    module _ (one : Found) (some : i < n) (e : FoundAt p d next left one) where
      pub searching_found : (s : Span) → one ≡ Break s → FoundInBlock p d at k (Break s)
      unfolding Searching FoundAt FoundInBlock block_of bodies
      searching_found s t P R vars fit l xs end h =
          let u = inv P R vars fit l xs end h in
          let v = many_more (read_stmt p P R vars d) (n - i) next u.rest_read (omega arith) in
          let w : Break s ≡ found_of (bodies v.head) left v.mid = sym t ∙ e P R vars fit v.head v.mid v.head_read in
          found_stop (bodies (block_of v.tail)) v.mid end (bodies v.head) left s w ∙ rw v.is at u.same

      pub searching_more : (o : Passed) → one ≡ Continue o → Searching p d at k (n - (i + 1)) o.next o.left
      unfolding Searching FoundAt block_of bodies
      searching_more o t P R vars fit l xs end h =
          let u = inv P R vars fit l xs end h in
          let v = many_more (read_stmt p P R vars d) (n - i) next u.rest_read (omega arith) in
          let w : Continue o ≡ found_of (bodies v.head) left v.mid = sym t ∙ e P R vars fit v.head v.mid v.head_read in
          let g = found_on (bodies (block_of v.tail)) v.mid end (bodies v.head) left o w in
          let m : n - (i + 1) ≡ n - i - 1 = omega arith in
          record { rest = v.tail; rest_read = rw (m, g.0) v.tail_read; same = g.1 ∙ rw v.is at u.same }

  -- two statements
  module _ (one : Found) (f : FoundAt p d at k one) where
    pub pair_first : (s : Span) → one ≡ Break s → FoundInPair p d at k (Break s)
    unfolding FoundAt FoundInPair
    pair_first s t P R vars fit a b mid end h g = found_stop (bodies b) mid end (bodies a) k s (sym t ∙ f P R vars fit a mid h)

    pub pair_second : (r : Found) (o : Passed) → one ≡ Continue o → FoundAt p d o.next o.left r → FoundInPair p d at k r
    unfolding FoundAt FoundInPair
    pair_second r o t s P R vars fit a b mid end h g =
        let w = found_on (bodies b) mid end (bodies a) k o (sym t ∙ f P R vars fit a mid h) in
        s P R vars fit b end (rw w.0 g) ∙ w.1

  -- a transaction whose body stands here
  pub body_here : (w v : Writes) (last size : ℕ) → k ≡ 0 → WritesAt p d at w v last → size ≡ last - at → FoundInBody p d at k (Break (record { start = at; size = size }))
  unfolding WritesAt FoundInBody found_of
  body_here w v last size z f e P R vars fit x end h = rw (z, e, (f P R vars fit x end h).0)

  pub body_inside : (r : Found) → (k ≡ 0 → ⊥) → FoundAt p d at (k - 1) r → FoundInBody p d at k r
  unfolding FoundAt FoundInBody found_of
  body_inside r n f P R vars fit x end h = f P R vars fit x end h ∙ go k n
    where
      go : (k : ℕ) → (k ≡ 0 → ⊥) → found_of (bodies x) (k - 1) end ≡ found_of (part at (end - at) ∷ bodies x) k end
      go zero n = absurd (n refl)
      go (suc k) n = let q : suc k - 1 ≡ k = omega arith in rw q

  -- a statement, by its code
  pub found_none : (r : Found) → d ≡ 0 → FoundAt p d at k r
  unfolding FoundAt
  found_none r z P R vars fit x end h = absurd (stmt_deep p P R vars d at h z)

  module _ (o : (Result Statement UnknownCode)) (i : o ≡ statement_of (byte p at)) where
    pub found_unknown : (r : Found) → o ≡ (Err (record {})) → FoundAt p d at k r
    unfolding FoundAt
    found_unknown r g P R vars fit x end h = absurd (omega (arith, statement_none (byte p at) o i g, stmt_known p P R vars d at h))

    module _ (c : Statement) (j : o ≡ Ok c) where
      module _ (next : ℕ) (q : next ≡ ahead p at 1) where
        pub found_skip : (r : Found) → c ≡ Skip → r ≡ none_found next k → FoundAt p d at k r
        unfolding FoundAt bodies found_of
        found_skip r g s P R vars fit x end h =
            let u = skip_parts p P R vars d at h (statement_byte_lem (byte p at) o i c j ∙ ap statement_byte g) in
            s ∙ rw (u.0, u.1, q, ahead_is p at 1 (omega (arith, stmt_there p P R vars d at h)))

        pub found_block : (r : Found) → c ≡ Block → FoundInBlock p (d - 1) next k r → FoundAt p d at k r
        unfolding FoundAt FoundInBlock
        found_block r g f P R vars fit x end h =
            let u = block_parts p P R vars d at h (statement_byte_lem (byte p at) o i c j ∙ ap statement_byte g) in
            let m : next ≡ at + 1 = q ∙ ahead_is p at 1 (omega arith) in
            let n : at + 1 + 1 ≡ at + 2 = omega arith in
            rw u.is (f P R vars fit (omega arith) u.parts end (rw (m, n) u.parts_read))

        pub found_if : (m : ℕ) (r : Found) → c ≡ If → ExprEnds p expression_depth next m → FoundInPair p (d - 1) m k r → FoundAt p d at k r
        unfolding FoundAt ExprEnds FoundInPair bodies
        found_if m r g f s P R vars fit x end h =
            let u = if_parts p P R vars d at h (statement_byte_lem (byte p at) o i c j ∙ ap statement_byte g) in
            let n : next ≡ at + 1 = q ∙ ahead_is p at 1 (omega (arith, stmt_there p P R vars d at h)) in
            let y : m ≡ u.start = f vars u.test u.start (rw n u.test_read) in
            rw u.is (s P R vars fit u.left u.right u.mid end (rw y u.left_read) u.right_read)

        pub found_while : (m : ℕ) (r : Found) → c ≡ While → ExprEnds p expression_depth next m → FoundAt p (d - 1) m k r → FoundAt p d at k r
        unfolding FoundAt ExprEnds bodies
        found_while m r g f s P R vars fit x end h =
            let u = while_parts p P R vars d at h (statement_byte_lem (byte p at) o i c j ∙ ap statement_byte g) in
            let n : next ≡ at + 1 = q ∙ ahead_is p at 1 (omega (arith, stmt_there p P R vars d at h)) in
            let y : m ≡ u.start = f vars u.test u.start (rw n u.test_read) in
            rw u.is (s P R vars fit u.body end (rw y u.body_read))

      pub found_assign : (m n : ℕ) (r : Found) → c ≡ Assign → m ≡ ahead p at 2 → ExprEnds p expression_depth m n → r ≡ none_found n k → FoundAt p d at k r
      unfolding FoundAt ExprEnds bodies found_of
      found_assign m n r g l f s P R vars fit x end h =
          let u = assign_parts p P R vars d at h (statement_byte_lem (byte p at) o i c j ∙ ap statement_byte g) in
          let y : n ≡ end = f vars u.value end (rw (l, ahead_is p at 2 u.inside) u.value_read) in
          s ∙ rw (u.is, y)

      pub found_query : (m : ℕ) (r : Found) → c ≡ Query → m ≡ ahead p at 3 → FoundInPair p (d - 1) m k r → FoundAt p d at k r
      unfolding FoundAt FoundInPair bodies
      found_query m r g l s P R vars fit x end h =
          let u = branch_parts p P R vars d at h (statement_byte_lem (byte p at) o i c j ∙ ap statement_byte g) in
          let y : m ≡ at + 3 = l ∙ ahead_is p at 3 (omega (arith, u.asked_parts.inside)) in
          rw u.is (s P R vars fit u.left u.right u.mid end (rw y u.left_read) u.right_read)

      pub found_update : (m : ℕ) (r : Found) → c ≡ Update → m ≡ after_list p at 3 → r ≡ none_found m k → FoundAt p d at k r
      unfolding FoundAt bodies found_of
      found_update m r g l s P R vars fit x end h =
          let u = update_parts p P R vars d at h (statement_byte_lem (byte p at) o i c j ∙ ap statement_byte g) in
          let v = mutations_end p P R (byte p (at + 1)) (at + 2) u.mutations_read u.inside in
          let y : m ≡ end = l ∙ list_is p at 3 (omega arith) ∙ sym v.0 in
          s ∙ rw (u.is, y)

      pub found_transaction : (m : ℕ) (r : Found) → c ≡ Transaction → m ≡ after_list p at 2 → FoundInBody p (d - 1) m k r → FoundAt p d at k r
      unfolding FoundAt FoundInBody bodies
      found_transaction m r g l f P R vars fit x end h =
          let u = transaction_parts p P R vars d at h (statement_byte_lem (byte p at) o i c j ∙ ap statement_byte g) in
          let y : m ≡ at + 2 + 2 * byte p (at + 1) = l ∙ list_is p at 2 u.inside in
          rw (u.is, ← y) (f P R vars fit u.body end (rw y u.body_read))

pub ruleset founds = (found_none, found_unknown, found_skip, found_assign, found_block, found_if, found_while, found_query, found_update, found_transaction)

pub ruleset searchings = (searching_start, searching_done, searching_found, searching_more)

pub ruleset pairs = (pair_first, pair_second)

pub ruleset inside = (body_here, body_inside)
