-- The version is unseen by reading and by the flow rules, so two programs that differ in nothing else get the same verdict at
-- the same place. Reading compares the head with the mark of the version that the program states, and looks at none of its
-- bytes again; the flow rules ask of the bytes only the labels behind it. What a version changes is left to the run.
use Prim.Native.Nat.{ℕ, zero, suc, ◌+◌, ◌-◌, ◌*◌, ◌<◌, ◌≤◌}
use native.Mathlib.Omega.{arith}
use native.Mathlib.Decide.{dec_lt}
use mathlib.Core.Path.{◌≡◌, refl, sym, ◌∙◌}
use mathlib.Core.List.{List, [], ◌∷◌}
use mathlib.Core.Bool.{Bool, true, false, cond, ◌||◌}
use lib.Dec.{eqb, ltb, leb}
use lib.ListN.{length, set, length-set}
use lib.Seq.{set_out, get_or-set_same, get_or-set_other}
use Rattle.model.specs.Limits.{program_bytes, variable_limit, statement_depth, expression_depth, list_limit}
use Rattle.model.specs.Number.{Verdict, fine, refused, program_length, program_mark}
use Rattle.model.specs.Bytes.{byte, word}
use Rattle.model.specs.Policy.{Side, reading, trust, principals, roles}
use Rattle.model.specs.Mutation.{Kind, addMember, deleteMember, addTaken, deleteTaken}
use Rattle.model.specs.Syntax.{Operator, sum, difference, product, quotient, less, equal, Expr, constant, Stmt}
use Rattle.model.specs.Program.{Read, got, bad, and_then, read_byte, read_below, read_mark, read_many, version, program_head, atom_at, read_atom, read_label, read_query, mutation_at, read_mutation, binary_at, expr_at, read_expr, assign_at, block_at, if_at, while_at, query_at, update_at, transaction_at, stmt_at, read_stmt, label_at, read_body, read_program}
use Rattle.model.specs.Flow.{label, program_verdict, transaction_part}
use Rattle.model.proofs.Bytes.{word_bytes}
use Rattle.model.proofs.Verdict.{body_same}

-- two readings that give the same and both go on from a position or behind it, or that are refused alike
data Same {A : Type 0} (from : ℕ) : Read A → Read A → Type 0 where
  both : {x : A} {next : ℕ} → from ≤ next → Same from (got x next) (got x next)
  neither : {k place : ℕ} → Same from (bad k place) (bad k place)

-- readers of which that is so wherever they start from that position on
abbrev SameFrom : {A : Type 0} → ℕ → (ℕ → Read A) → (ℕ → Read A) → Type 0
SameFrom from f g = (at : ℕ) → from ≤ at → Same from (f at) (g at)

same_equal : {A : Type 0} {from : ℕ} {r t : Read A} → Same from r t → r ≡ t
same_equal (both l) = refl
same_equal neither = refl

module _ {A : Type 0} {from : ℕ} where
  then_same : {B : Type 0} {r t : Read B} {f g : B → ℕ → Read A} → Same from r t → ((x : B) (n : ℕ) → from ≤ n → Same from (f x n) (g x n)) → Same from (and_then r f) (and_then t g)
  unfolding and_then
  then_same (both {x = x} {next = n} l) h = h x n l
  then_same neither h = neither

  pick_same : (b : Bool) {u v x y : Read A} → Same from u v → Same from x y → Same from (cond b u x) (cond b v y)
  pick_same true f g = f
  pick_same false f g = g

-- n things one after the other
many_same : {A : Type 0} (from : ℕ) (f g : ℕ → Read A) → SameFrom from f g → (n : ℕ) → SameFrom from (read_many f n) (read_many g n)
unfolding read_many
many_same from f g same zero at l = both l
many_same from f g same (suc n) at l = then_same (same at l) (λ x mid m. then_same (many_same from f g same n mid m) (λ xs end e. both e))

-- one more byte at the front of two marks, where both lists match it or neither does
mark_same : (from : ℕ) (p q : List ℕ) (at x y : ℕ) (m n : List ℕ) → length p ≡ length q → eqb (byte p at) x ≡ eqb (byte q at) y
    → Same from (read_mark p m (at + 1)) (read_mark q n (at + 1)) → Same from (read_mark p (x ∷ m) at) (read_mark q (y ∷ n) at)
unfolding read_mark read_byte and_then
mark_same from p q at x y m n long match rest = rw long (go (ltb at (length q)))
  where
    go : (b : Bool) → Same from
        (and_then (cond b (got (byte p at) (at + 1)) (bad program_length (length q))) (λ z next. cond (eqb z x) (read_mark p m next) (bad program_mark at)))
        (and_then (cond b (got (byte q at) (at + 1)) (bad program_length (length q))) (λ z next. cond (eqb z y) (read_mark q n next) (bad program_mark at)))
    go true = rw match (pick_same (eqb (byte q at) y) rest neither)
    go false = neither

mark_ends : (from : ℕ) (p q : List ℕ) (at : ℕ) → from ≤ at → Same from (read_mark p [] at) (read_mark q [] at)
unfolding read_mark
mark_ends from p q at l = both l

-- two programs of one length, with the same bytes from a position on
module _ (from : ℕ) (p q : List ℕ) (long : length p ≡ length q) (bytes : (i : ℕ) → from ≤ i → byte p i ≡ byte q i) where
  byte_same : SameFrom from (read_byte p) (read_byte q)
  unfolding read_byte
  byte_same at l = rw (long, bytes at l) (pick_same (ltb at (length q)) (both (omega arith)) neither)

  below_same : (bound : ℕ) → SameFrom from (read_below p bound) (read_below q bound)
  unfolding read_below
  below_same bound at l = then_same (byte_same at l) (λ x next n. pick_same (ltb x bound) (both n) neither)

  label_read_same : (R : ℕ) → SameFrom from (read_label p R) (read_label q R)
  unfolding read_label
  label_read_same R at l = then_same (byte_same at l) (λ x next n. pick_same (ltb x R || eqb x 0xff) (both n) neither)

  atom_same : (R : ℕ) → SameFrom from (read_atom p R) (read_atom q R)
  unfolding read_atom atom_at
  atom_same R at l = then_same (byte_same at l)
      (λ x next n.
      pick_same (ltb x 0x40) (pick_same (ltb x R) (both n) neither)
      (pick_same (ltb x 0x80) (pick_same (ltb (x - 0x40) R) (both n) neither)
      (pick_same (ltb x 0xc0) (pick_same (ltb (x - 0x80) R) (both n) neither)
      (pick_same (eqb x 0xff) (both n) neither))))

  query_same : (R : ℕ) → SameFrom from (read_query p R) (read_query q R)
  unfolding read_query
  query_same R at l = then_same (atom_same R at l) (λ a mid m. then_same (atom_same R mid m) (λ b end n. both n))

  mutation_at_same : (R : ℕ) (kind : Kind) (bound : ℕ) → SameFrom from (mutation_at p R kind bound) (mutation_at q R kind bound)
  unfolding mutation_at
  mutation_at_same R kind bound at l = then_same (below_same R at l) (λ r mid m. then_same (below_same bound mid m) (λ x end n. both n))

  mutation_same : (P R : ℕ) → SameFrom from (read_mutation p P R) (read_mutation q P R)
  unfolding read_mutation
  mutation_same P R at l = then_same (byte_same at l)
      (λ k next n.
      pick_same (eqb k 0) (mutation_at_same R addMember P next n)
      (pick_same (eqb k 1) (mutation_at_same R deleteMember P next n)
      (pick_same (eqb k 2) (mutation_at_same R addTaken R next n)
      (pick_same (eqb k 3) (mutation_at_same R deleteTaken R next n) neither))))

  constant_same : SameFrom from
      (λ next. cond (leb (next + 4) (length p)) (got (constant (word p next 4)) (next + 4)) (bad program_length (length p)))
      (λ next. cond (leb (next + 4) (length q)) (got (constant (word q next 4)) (next + 4)) (bad program_length (length q)))
  constant_same next l =
      rw (long, word_bytes p q next 4 (λ i _. bytes (next + i) (omega arith))) (pick_same (leb (next + 4) (length q)) (both (omega arith)) neither)

  -- an expression after its code; `f` and `g` read those that it holds
  module _ (vars : ℕ) (f g : ℕ → Read Expr) (same : SameFrom from f g) where
    binary_same : (op : Operator) → SameFrom from (binary_at f op) (binary_at g op)
    unfolding binary_at
    binary_same op at l = then_same (same at l) (λ a mid m. then_same (same mid m) (λ b end n. both n))

    expr_at_same : (at code : ℕ) → SameFrom from (expr_at p vars f at code) (expr_at q vars g at code)
    unfolding expr_at
    expr_at_same at code next l =
        pick_same (eqb code 0) (constant_same next l)
        (pick_same (eqb code 1) (then_same (below_same vars next l) (λ x end n. both n))
        (pick_same (eqb code 2) (binary_same sum next l)
        (pick_same (eqb code 3) (binary_same difference next l)
        (pick_same (eqb code 4) (binary_same product next l)
        (pick_same (eqb code 5) (binary_same quotient next l)
        (pick_same (eqb code 6) (binary_same less next l)
        (pick_same (eqb code 7) (binary_same equal next l) neither)))))))

  expr_same : (vars depth : ℕ) → SameFrom from (read_expr p vars depth) (read_expr q vars depth)
  unfolding read_expr
  expr_same vars zero at l = neither
  expr_same vars (suc depth) at l = then_same (byte_same at l) (expr_at_same vars _ _ (expr_same vars depth) at)

  module _ (P R vars : ℕ) where
    -- a statement after its code; `f` and `g` read those that it holds
    stmt_at_same : (f g : ℕ → Read Stmt) → SameFrom from f g → (at code : ℕ) → SameFrom from (stmt_at p P R vars f at code) (stmt_at q P R vars g at code)
    unfolding stmt_at assign_at block_at if_at while_at query_at update_at transaction_at
    stmt_at_same f g same at code next l =
        pick_same (eqb code 0) (both l)
        (pick_same (eqb code 1) (then_same (below_same vars next l) (λ x mid m. then_same (expr_same vars expression_depth mid m) (λ e end n. both n)))
        (pick_same (eqb code 2) (then_same (byte_same next l) (λ k mid m. then_same (many_same from f g same k mid m) (λ xs end n. both n)))
        (pick_same (eqb code 3) (then_same (expr_same vars expression_depth next l) (λ e u i. then_same (same u i) (λ a v j. then_same (same v j) (λ b end n. both n))))
        (pick_same (eqb code 4) (then_same (expr_same vars expression_depth next l) (λ e u i. then_same (same u i) (λ a end n. both n)))
        (pick_same (eqb code 5) (then_same (query_same R next l) (λ k u i. then_same (same u i) (λ a v j. then_same (same v j) (λ b end n. both n))))
        (pick_same (eqb code 6) (then_same (byte_same next l) (λ k mid m. pick_same (ltb 0 k) (pick_same (leb k list_limit)
        (then_same (many_same from _ _ (mutation_same P R) k mid m) (λ ms end n. both n)) neither) neither))
        (pick_same (eqb code 7) (then_same (byte_same next l) (λ k mid m. pick_same (leb k list_limit)
        (then_same (many_same from _ _ (query_same R) k mid m) (λ qs start i. then_same (same start i) (λ a end n. both n))) neither)) neither)))))))

    stmt_same : (depth : ℕ) → SameFrom from (read_stmt p P R vars depth) (read_stmt q P R vars depth)
    unfolding read_stmt
    stmt_same zero at l = neither
    stmt_same (suc depth) at l = then_same (byte_same at l) (stmt_at_same _ _ (stmt_same depth) at)

    body_read_same : SameFrom from (read_body p P R vars) (read_body q P R vars)
    unfolding read_body
    body_read_same at l = rw long (then_same (stmt_same statement_depth at l) (λ body end n. pick_same (eqb end (length q)) (both n) neither))

-- a program with one or the other version's byte
module _ (p : List ℕ) where
  long : length (set p 3 1) ≡ length (set p 3 2)
  long = simp length-set

  -- all other bytes are the same
  other_bytes : (i : ℕ) → (i ≡ 3 → ⊥) → byte (set p 3 1) i ≡ byte (set p 3 2) i
  other_bytes i n = get_or-set_other p 3 i 1 0 n ∙ sym (get_or-set_other p 3 i 2 0 n)

  -- a byte of the mark that is not the version's
  mark_byte : (at x : ℕ) (m n : List ℕ) → (at ≡ 3 → ⊥) → Same 4 (read_mark (set p 3 1) m (at + 1)) (read_mark (set p 3 2) n (at + 1))
      → Same 4 (read_mark (set p 3 1) (x ∷ m) at) (read_mark (set p 3 2) (x ∷ n) at)
  mark_byte at x m n other rest = mark_same 4 _ _ at x x m n long (rw (other_bytes at other)) rest

  label_same : (side : Side) (x : ℕ) → label (set p 3 1) side x ≡ label (set p 3 2) side x
  unfolding label
  label_same reading x = rw (other_bytes (label_at reading x) (omega arith))
  label_same trust x = rw (other_bytes (label_at trust x) (omega arith))

  module _ (there : 3 < length p) where
    -- each is of the version that its byte states
    one : version (set p 3 1) ≡ 1
    unfolding version
    one = rw (get_or-set_same p 3 1 0 there)

    two : version (set p 3 2) ≡ 2
    unfolding version
    two = rw (get_or-set_same p 3 2 0 there)

    head_same : Same 4 (read_mark (set p 3 1) (program_head 1) 0) (read_mark (set p 3 2) (program_head 2) 0)
    head_same =
        mark_byte 0 0x52 _ _ (omega arith)
        (mark_byte 1 0x58 _ _ (omega arith)
        (mark_byte 2 0x50 _ _ (omega arith)
        (mark_same 4 _ _ 3 1 2 _ _ long (rw (get_or-set_same p 3 1 0 there, get_or-set_same p 3 2 0 there))
        (mark_byte 4 0 _ _ (omega arith)
        (mark_ends 4 _ _ 5 (omega arith))))))

    program_same : (P R : ℕ) → Same 4 (read_program (set p 3 1) P R) (read_program (set p 3 2) P R)
    unfolding read_program
    program_same P R =
        rw (one, two, long)
        (pick_same (leb (length (set p 3 2)) program_bytes)
        (then_same head_same
        (λ _ n l. then_same (below_same 4 _ _ long later (suc variable_limit) n l)
        (λ vars k i. then_same (many_same 4 _ _ (label_read_same 4 _ _ long later R) (2 * vars) k i)
        (λ _ at j. body_read_same 4 _ _ long later P R vars at j))))
        neither)
      where
        later : (i : ℕ) → 4 ≤ i → byte (set p 3 1) i ≡ byte (set p 3 2) i
        later i l = other_bytes i (omega arith)

  -- reading: the same tree, or the same number at the same place; a program that ends before its version has none to differ in
  pub read_unseen : (P R : ℕ) → read_program (set p 3 1) P R ≡ read_program (set p 3 2) P R
  read_unseen P R = go (dec_lt 3 (length p))
    where
      go : Dec (3 < length p) → read_program (set p 3 1) P R ≡ read_program (set p 3 2) P R
      go (yes l) = same_equal (program_same l P R)
      go (no n) = rw (set_out p 3 1 (omega arith), set_out p 3 2 (omega arith))

-- the verdict, and its place
pub version_unseen : (s p : List ℕ) → program_verdict s (set p 3 1) ≡ program_verdict s (set p 3 2)
unfolding program_verdict
version_unseen s p = rw (read_unseen p _ _) (rw (body_same s s (set p 3 1) (set p 3 2) (label_same p) (λ _ _ _. refl) (λ _. refl) _))

-- the body of each transaction
pub transaction_unseen : (s p : List ℕ) (k : ℕ) → transaction_part s (set p 3 1) k ≡ transaction_part s (set p 3 2) k
unfolding transaction_part
transaction_unseen s p k = go (program_verdict s (set p 3 2)) refl
  where
    go : (v : Verdict) → program_verdict s (set p 3 2) ≡ v → transaction_part s (set p 3 1) k ≡ transaction_part s (set p 3 2) k
    go fine e = rw (version_unseen s p, e, read_unseen p (principals s) (roles s))
    go (refused n place) e = rw (version_unseen s p, e)
