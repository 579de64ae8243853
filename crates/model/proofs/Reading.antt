-- Forward, from any bytes to what reading gives (`Standing` goes back, from a tree that was read to the bytes that it stands
-- in): each reader goes on inside the bytes and passes on only numbers that it found below their bounds, so what is read fits,
-- stands where it must, and has its transactions' bodies inside it. What is not read is refused with 10 to 14, since readers
-- know no other number.
use Prim.Native.Nat.{ℕ, zero, suc, ◌+◌, ◌-◌, ◌*◌, ◌<◌, ◌≤◌}
use native.Mathlib.Omega.{arith}
use mathlib.Core.Path.{◌≡◌, refl, sym, ap, ◌∙◌}
use mathlib.Core.Logic.{◌⊎◌, inl, inr, ⊎_elim}
use mathlib.Core.List.Memᴰ
use mathlib.Core.List.{List, [], ◌∷◌}
use mathlib.Core.Bool.{Bool, true, false, cond, ◌||◌}
use lib.Dec.{eqb, ltb, leb}
use lib.ListN.{length}
use borrow.Author.Tests.{ltb-true, leb-true, eqb-true}
use Rattle.model.specs.Limits.{program_bytes, variable_limit, statement_depth, expression_depth, list_limit}
use Rattle.model.specs.Number.{program_length, program_range, program_depth}
use Rattle.model.specs.Bytes.{byte, word}
use Rattle.model.specs.Policy.{reading, trust}
use Rattle.model.specs.Mutation.{Kind, addMember, deleteMember, addTaken, deleteTaken, Mutation}
use Rattle.model.specs.Syntax.{of, Atom, role, fixed, Query, Operator, sum, difference, product, quotient, less, equal, Expr, Stmt}
use Rattle.model.specs.Program.{Read, got, bad, and_then, read_byte, read_below, read_mark, read_many, version, program_head, atom_at, read_atom, read_label, read_query, mutation_at, read_mutation, binary_at, expr_at, read_expr, block_of, assign_at, block_at, if_at, while_at, query_at, update_at, transaction_at, stmt_at, read_stmt, variables, read_body, read_program}
use Rattle.model.specs.Flow.{part, bodies}
use Rattle.model.proofs.Bodies.{BodiesWithin, bodies_later, two_within, none_within, block_within}
use Rattle.model.specs.Fits.{Each, AtomFits, QueryFits, operand_limit, MutationFits, ExprFits, Fits}
use Rattle.model.proofs.Fits.{each_cons}
use Rattle.model.proofs.Truth.{true_or_false, either}

-- the numbers that reading refuses with
abbrev pub ReadNumber : ℕ → Type 0
ReadNumber k = (program_length ≤ k) × (k ≤ program_depth)

-- whatever reading gives, with the position after it, is so
data Gives {A : Type 0} (Q : A → ℕ → Type 0) : Read A → Type 0 where
  gives : {x : A} {next : ℕ} → Q x next → Gives Q (got x next)
  fails : {k place : ℕ} → ReadNumber k → Gives Q (bad k place)

module _ {A : Type 0} {Q : A → ℕ → Type 0} where
  then_gives : {B : Type 0} {H : B → ℕ → Type 0} {r : Read B} {f : B → ℕ → Read A} → Gives H r → ((x : B) (n : ℕ) → H x n → Gives Q (f x n)) → Gives Q (and_then r f)
  unfolding and_then
  then_gives (gives {x = x} {next = n} h) g = g x n h
  then_gives (fails n) g = fails n

  pick_gives : (b : Bool) {x y : Read A} → (b ≡ true → Gives Q x) → Gives Q y → Gives Q (cond b x y)
  pick_gives true f g = f refl
  pick_gives false f g = g

-- what follows from what is so of what is given
weaker : {A : Type 0} {Q H : A → ℕ → Type 0} {r : Read A} → Gives Q r → ((x : A) (n : ℕ) → Q x n → H x n) → Gives H r
weaker (gives {x = x} {next = n} h) f = gives (f x n h)
weaker (fails n) f = fails n

gives_got : {A : Type 0} {Q : A → ℕ → Type 0} {x : A} {n : ℕ} → Gives Q (got x n) → Q x n
gives_got (gives h) = h

fails_bad : {A : Type 0} {Q : A → ℕ → Type 0} {k place : ℕ} → Gives Q (bad k place) → ReadNumber k
fails_bad (fails n) = n

-- single bytes
module _ (p : List ℕ) where
  byte_gives : (at : ℕ) → Gives (λ x n. (at < length p) × (x ≡ byte p at) × (n ≡ at + 1)) (read_byte p at)
  unfolding read_byte
  byte_gives at = pick_gives (ltb at (length p)) (λ l. gives (ltb-true _ _ l, refl, refl)) (fails (omega arith))

  below_gives : (bound at : ℕ) → Gives (λ x n. (at < length p) × (x ≡ byte p at) × (n ≡ at + 1) × (x < bound)) (read_below p bound at)
  unfolding read_below
  below_gives bound at = then_gives (byte_gives at) (λ x n h. pick_gives (ltb x bound) (λ l. gives (h.0, h.1, h.2, ltb-true x bound l)) (fails (omega arith)))

  -- the bytes of a mark, one after the other from a position on
  abbrev Marked : List ℕ → ℕ → Type 0
  Marked [] at = Unit {0}
  Marked (x ∷ m) at = (byte p at ≡ x) × Marked m (at + 1)

  mark_gives : (m : List ℕ) (at end : ℕ) → at + length m ≡ end → Gives (λ x n. (n ≡ end) × Marked m at) (read_mark p m at)
  unfolding read_mark
  mark_gives [] at end e = let q : at ≡ end = omega arith in gives (q, tt)
  mark_gives (x ∷ m) at end e =
      then_gives (byte_gives at)
      (λ y n h. pick_gives (eqb y x)
      (λ l. weaker (mark_gives m n end (omega arith)) (λ _ _ g. (g.0, (sym h.1 ∙ eqb-true y x l, rw h.2 at g.1))))
      (fails (omega arith)))

-- something that is so where it ends, read forward from a position inside the bytes
module _ (p : List ℕ) {A : Type 0} (Q : ℕ → A → Type 0) where
  abbrev GivesFrom : ℕ → Read A → Type 0
  GivesFrom at = Gives (λ x end. (at ≤ end) × (end ≤ length p) × Q end x)

  -- from a later position it is from an earlier one too
  earlier : {at next : ℕ} {r : Read A} → at ≤ next → GivesFrom next r → GivesFrom at r
  earlier l r = weaker r (λ x end h. (omega arith, h.1, h.2))

-- n things one after the other, where a later end keeps what is so of each
many_gives : (p : List ℕ) {A : Type 0} (Q : ℕ → A → Type 0) → ((m n : ℕ) → m ≤ n → (x : A) → Q m x → Q n x)
    → (sub : ℕ → Read A) → ((at : ℕ) → GivesFrom p Q at (sub at)) → (n at : ℕ) → at ≤ length p → GivesFrom p (λ end xs. Each (Q end) xs) at (read_many sub n at)
unfolding read_many
many_gives p Q later sub f zero at l = gives {next = at} (omega arith, l, λ x m. absurd (Memᴰ.not-nil m))
many_gives p Q later sub f (suc n) at l =
    then_gives (f at)
    (λ x mid h. then_gives (many_gives p Q later sub f n mid h.1)
    (λ xs end g. gives (omega arith, g.1, each_cons (later mid end g.0 x h.2) g.2)))

-- an expression; `sub` reads those that it holds
module _ (p : List ℕ) (vars : ℕ) where
  abbrev GivesExpr : ℕ → Read Expr → Type 0
  GivesExpr = GivesFrom p (λ end e. ExprFits vars e)

  binary_gives : (sub : ℕ → Read Expr) → ((at : ℕ) → GivesExpr at (sub at)) → (op : Operator) (at : ℕ) → GivesExpr at (binary_at sub op at)
  unfolding binary_at
  binary_gives sub f op at = then_gives (f at) (λ a mid h. then_gives (f mid) (λ b end k. gives (omega arith, k.1, (h.2, k.2))))

  expr_at_gives : (sub : ℕ → Read Expr) → ((at : ℕ) → GivesExpr at (sub at)) → (at code next : ℕ) → GivesExpr next (expr_at p vars sub at code next)
  unfolding expr_at
  expr_at_gives sub f at code next =
      pick_gives (eqb code 0) (λ _. pick_gives (leb (next + 4) (length p)) (λ l. gives (omega arith, leb-true _ _ l, tt)) (fails (omega arith)))
      (pick_gives (eqb code 1) (λ _. then_gives (below_gives p vars next) (λ x end h. gives (omega arith, omega arith, h.3)))
      (pick_gives (eqb code 2) (λ _. binary_gives sub f sum next)
      (pick_gives (eqb code 3) (λ _. binary_gives sub f difference next)
      (pick_gives (eqb code 4) (λ _. binary_gives sub f product next)
      (pick_gives (eqb code 5) (λ _. binary_gives sub f quotient next)
      (pick_gives (eqb code 6) (λ _. binary_gives sub f less next)
      (pick_gives (eqb code 7) (λ _. binary_gives sub f equal next) (fails (omega arith)))))))))

  expr_gives : (depth at : ℕ) → GivesExpr at (read_expr p vars depth at)
  unfolding read_expr
  expr_gives zero at = fails {k = program_depth} (omega arith)
  expr_gives (suc depth) at =
      then_gives (byte_gives p at) (λ code next h. earlier p (λ end e. ExprFits vars e) (omega arith) (expr_at_gives (read_expr p vars depth) (expr_gives depth) at code next))

-- what was read of an expression ends where it starts, or behind
pub expr_forward : (p : List ℕ) (vars depth at : ℕ) {e : Expr} {end : ℕ} → read_expr p vars depth at ≡ got e end → at ≤ end
expr_forward p vars depth at h = (gives_got (rw h at (expr_gives p vars depth at))).0

-- atoms, queries and mutations
module _ (p : List ℕ) (R : ℕ) where
  atom_gives : (at : ℕ) → GivesFrom p (λ end a. AtomFits R a) at (read_atom p R at)
  unfolding read_atom atom_at
  atom_gives at = then_gives (byte_gives p at)
      (λ x next h.
      let l : at ≤ next = omega arith in
      let n : next ≤ length p = omega arith in
      pick_gives (ltb x 0x40) (λ _. below (λ j. role j) x next l n (λ j i. i))
      (pick_gives (ltb x 0x80) (λ _. below (λ j. fixed (of reading j)) (x - 0x40) next l n (λ j i. i))
      (pick_gives (ltb x 0xc0) (λ _. below (λ j. fixed (of trust j)) (x - 0x80) next l n (λ j i. i))
      (pick_gives (eqb x 0xff) (λ _. gives (l, n, tt)) (fails (omega arith))))))
    where
      below : (f : ℕ → Atom) (j next : ℕ) → at ≤ next → next ≤ length p → ((j : ℕ) → j < R → AtomFits R (f j)) → GivesFrom p (λ end a. AtomFits R a) at (cond (ltb j R) (got (f j) next) (bad program_range at))
      below f j next l n h = pick_gives (ltb j R) (λ i. gives (l, n, h j (ltb-true j R i))) (fails (omega arith))

  query_gives : (at : ℕ) → GivesFrom p (λ end q. QueryFits R q) at (read_query p R at)
  unfolding read_query
  query_gives at = then_gives (atom_gives at) (λ a mid h. then_gives (atom_gives mid) (λ b end k. gives (omega arith, k.1, (h.2, k.2))))

  -- a query that was read names only roles that there are
  pub query_fits : (at : ℕ) {q : Query} {end : ℕ} → read_query p R at ≡ got q end → QueryFits R q
  query_fits at h = (gives_got (rw h at (query_gives at))).2

module _ (p : List ℕ) (P R : ℕ) where
  abbrev GivesMutation : ℕ → Read Mutation → Type 0
  GivesMutation = GivesFrom p (λ end m. MutationFits P R m)

  mutation_at_gives : (kind : Kind) (bound at next : ℕ) → at ≤ next → bound ≡ operand_limit P R kind → GivesMutation at (mutation_at p R kind bound next)
  unfolding mutation_at
  mutation_at_gives kind bound at next l e =
      then_gives (below_gives p R next) (λ r mid h. then_gives (below_gives p bound mid) (λ x end k. gives (omega arith, omega arith, (h.3, rw e at k.3))))

  mutation_gives : (at : ℕ) → GivesMutation at (read_mutation p P R at)
  unfolding read_mutation
  mutation_gives at = then_gives (byte_gives p at)
      (λ k next h.
      pick_gives (eqb k 0) (λ _. mutation_at_gives addMember P at next (omega arith) refl)
      (pick_gives (eqb k 1) (λ _. mutation_at_gives deleteMember P at next (omega arith) refl)
      (pick_gives (eqb k 2) (λ _. mutation_at_gives addTaken R at next (omega arith) refl)
      (pick_gives (eqb k 3) (λ _. mutation_at_gives deleteTaken R at next (omega arith) refl) (fails (omega arith))))))

block_fits : (P R vars : ℕ) (xs : List Stmt) → Each (Fits P R vars) xs → Fits P R vars (block_of xs)
unfolding block_of
block_fits P R vars [] f = tt
block_fits P R vars (x ∷ xs) f = (f x (Memᴰ.head refl), block_fits P R vars xs (λ y m. f y (Memᴰ.tail m)))

module _ (p : List ℕ) (P R vars : ℕ) where
  -- a statement fits, and the bodies in it end where it does or before
  abbrev Whole : ℕ → Stmt → Type 0
  Whole end x = Fits P R vars x × BodiesWithin end x

  whole_later : (m n : ℕ) → m ≤ n → (x : Stmt) → Whole m x → Whole n x
  whole_later m n l x h = (h.0, bodies_later m n l x h.1)

  abbrev GivesStmt : ℕ → Read Stmt → Type 0
  GivesStmt = GivesFrom p Whole

  -- a statement after its code; `sub` reads those that it holds
  stmt_at_gives : (sub : ℕ → Read Stmt) → ((at : ℕ) → GivesStmt at (sub at)) → (at code next : ℕ) → at ≤ next → next ≤ length p → GivesStmt at (stmt_at p P R vars sub at code next)
  unfolding stmt_at assign_at block_at if_at while_at query_at update_at transaction_at bodies
  stmt_at_gives sub f at code next l n =
      pick_gives (eqb code 0) (λ _. gives (l, n, (tt, none_within next)))
      (pick_gives (eqb code 1) (λ _. then_gives (below_gives p vars next) (λ x mid h. then_gives (expr_gives p vars expression_depth mid) (λ e end k. gives (omega arith, k.1, ((h.3, k.2), none_within end)))))
      (pick_gives (eqb code 2) (λ _. then_gives (byte_gives p next) (λ n mid h. then_gives (many_gives p Whole whole_later sub f n mid (omega arith))
      (λ xs end k. gives (omega arith, k.1, (block_fits P R vars xs (λ x m. (k.2 x m).0), block_within xs (λ x m. (k.2 x m).1))))))
      (pick_gives (eqb code 3) (λ _. then_gives (expr_gives p vars expression_depth next) (λ e u h. then_gives (f u) (λ a v k. then_gives (f v)
      (λ b end j. gives (omega arith, j.1, ((h.2, k.2.0, j.2.0), two_within (bodies a) (bodies b) j.0 k.2.1 j.2.1))))))
      (pick_gives (eqb code 4) (λ _. then_gives (expr_gives p vars expression_depth next) (λ e u h. then_gives (f u) (λ a end k. gives (omega arith, k.1, ((h.2, k.2.0), k.2.1)))))
      (pick_gives (eqb code 5) (λ _. then_gives (query_gives p R next) (λ q u h. then_gives (f u) (λ a v k. then_gives (f v)
      (λ b end j. gives (omega arith, j.1, ((h.2, k.2.0, j.2.0), two_within (bodies a) (bodies b) j.0 k.2.1 j.2.1))))))
      (pick_gives (eqb code 6) (λ _. then_gives (byte_gives p next) (λ n mid h. pick_gives (ltb 0 n) (λ _. pick_gives (leb n list_limit)
      (λ _. then_gives (many_gives p (λ end m. MutationFits P R m) (λ _ _ _ m i. i) (read_mutation p P R) (mutation_gives p P R) n mid (omega arith))
      (λ ms end k. gives (omega arith, k.1, (k.2, none_within end)))) (fails (omega arith))) (fails (omega arith))))
      (pick_gives (eqb code 7) (λ _. then_gives (byte_gives p next) (λ n mid h. pick_gives (leb n list_limit)
      (λ _. then_gives (many_gives p (λ end q. QueryFits R q) (λ _ _ _ q i. i) (read_query p R) (query_gives p R) n mid (omega arith)) (λ qs start k. then_gives (f start)
      (λ a end j. let w : start + (end - start) ≤ end = omega arith in gives (omega arith, j.1, ((k.2, j.2.0), each_cons {x = part start (end - start)} w j.2.1))))) (fails (omega arith)))) (fails (omega arith)))))))))

  stmt_gives : (depth at : ℕ) → GivesStmt at (read_stmt p P R vars depth at)
  unfolding read_stmt
  stmt_gives zero at = fails {k = program_depth} (omega arith)
  stmt_gives (suc depth) at = then_gives (byte_gives p at) (λ code next h. stmt_at_gives (read_stmt p P R vars depth) (stmt_gives depth) at code next (omega arith) (omega arith))

  -- what was read of statements ends where they start, or behind, and inside the bytes
  pub stmt_within : (depth at : ℕ) {x : Stmt} {end : ℕ} → read_stmt p P R vars depth at ≡ got x end → (at ≤ end) × (end ≤ length p)
  stmt_within depth at h = let u = gives_got (rw h at (stmt_gives depth at)) in (u.0, u.1)

  pub stmts_within : (depth n at : ℕ) {xs : List Stmt} {end : ℕ} → at ≤ length p → read_many (read_stmt p P R vars depth) n at ≡ got xs end → (at ≤ end) × (end ≤ length p)
  stmts_within depth n at l h =
      let u = gives_got (rw h at (many_gives p Whole whole_later (read_stmt p P R vars depth) (stmt_gives depth) n at l)) in
      (u.0, u.1)

-- a variable's label is a role that there is, or everyone
abbrev pub LabelFits : ℕ → ℕ → Type 0
LabelFits R x = (x ≡ 0xff → ⊥) → x < R

-- each label byte of a program is
abbrev pub LabelsFit : List ℕ → ℕ → Type 0
LabelsFit p R = (i : ℕ) → i < 2 * variables p → LabelFits R (byte p (6 + i))

module _ (p : List ℕ) (R : ℕ) where
  label_fits : (x : ℕ) → (ltb x R || eqb x 0xff) ≡ true → LabelFits R x
  label_fits x h n = ⊎_elim (λ l. ltb-true x R l) (λ e. absurd (n (eqb-true x 0xff e))) (either (ltb x R) (eqb x 0xff) h)

  label_gives : (at : ℕ) → Gives (λ x n. (at < length p) × (n ≡ at + 1) × LabelFits R (byte p at)) (read_label p R at)
  unfolding read_label
  label_gives at = then_gives (byte_gives p at) (λ x next h. pick_gives (ltb x R || eqb x 0xff) (λ l. gives (h.0, h.2, rw h.1 at (label_fits x l))) (fails (omega arith)))

  labels_gives : (n at : ℕ) → at ≤ length p → Gives (λ xs end. (end ≡ at + n) × (end ≤ length p) × ((i : ℕ) → i < n → LabelFits R (byte p (at + i)))) (read_many (read_label p R) n at)
  unfolding read_many
  labels_gives zero at l = gives {next = at} (omega arith, l, λ i m. absurd (omega arith))
  labels_gives (suc n) at l =
      then_gives (label_gives at)
      (λ x mid h. then_gives (labels_gives n mid (omega arith)) (λ xs end g. gives (omega arith, g.1, each mid h.1 h.2 g.2)))
    where
      each : (mid : ℕ) → mid ≡ at + 1 → LabelFits R (byte p at) → ((i : ℕ) → i < n → LabelFits R (byte p (mid + i))) → (i : ℕ) → i < suc n → LabelFits R (byte p (at + i))
      each mid m f g zero l = let k : at + 0 ≡ at = omega arith in rw k f
      each mid m f g (suc i) l = let k : at + suc i ≡ mid + i = omega arith in rw k (g i (omega arith))

-- there are two versions
pub one_or_two : (p : List ℕ) → (version p ≡ 1) ⊎ (version p ≡ 2)
unfolding version
one_or_two p = ⊎_elim (λ t. inr (rw t)) (λ f. inl (rw f)) (true_or_false (eqb (byte p 3) 2))

-- a program that was read: the two bytes after its mark are its version, the labels fit, the statement stands after them and
-- fits, and it ends where the program does
pub record ProgramParts (p : List ℕ) (P R : ℕ) (x : Stmt) (end : ℕ) : Type 0 where
  pub stated : word p 3 2 ≡ version p
  pub few : variables p ≤ variable_limit
  pub inside : 6 + 2 * variables p ≤ length p
  pub labels : LabelsFit p R
  pub body_read : read_stmt p P R (variables p) statement_depth (6 + 2 * variables p) ≡ got x end
  pub ends : end ≡ length p
  pub fits : Fits P R (variables p) x
  pub bodies_within : BodiesWithin end x

module _ (p : List ℕ) (P R : ℕ) where
  -- the two bytes after the mark, as 16 bits
  version_marked : (v : ℕ) → Marked p (program_head v) 0 → word p 3 2 ≡ v
  unfolding word
  version_marked v h = omega arith

  body_gives : word p 3 2 ≡ version p → variables p ≤ variable_limit → 6 + 2 * variables p ≤ length p → LabelsFit p R → (vars at : ℕ) → vars ≡ variables p → at ≡ 6 + 2 * variables p → Gives (ProgramParts p P R) (read_body p P R vars at)
  unfolding read_body and_then
  body_gives stated few inside labels vars at v e = rw (v, e) (go (read_stmt p P R (variables p) statement_depth (6 + 2 * variables p)) refl (stmt_gives p P R (variables p) statement_depth (6 + 2 * variables p)))
    where
      go : (r : Read Stmt) → read_stmt p P R (variables p) statement_depth (6 + 2 * variables p) ≡ r → GivesStmt p P R (variables p) (6 + 2 * variables p) r
          → Gives (ProgramParts p P R) (and_then r (λ body end. cond (eqb end (length p)) (got body end) (bad program_length end)))
      go (got x end) h (gives g) = pick_gives (eqb end (length p)) (λ l. gives (record {
        stated = stated;
        few = few;
        inside = inside;
        labels = labels;
        body_read = h;
        ends = eqb-true end (length p) l;
        fits = g.2.0;
        bodies_within = g.2.1;
      })) (fails (omega arith))
      go (bad k place) h (fails n) = fails n

  program_gives : Gives (ProgramParts p P R) (read_program p P R)
  unfolding read_program
  program_gives =
      pick_gives (leb (length p) program_bytes)
      (λ _. then_gives (mark_gives p (program_head (version p)) 0 5 refl)
      (λ _ n m. then_gives (below_gives p (suc variable_limit) n)
      (λ vars q h.
      let v : vars ≡ variables p = h.1 ∙ ap (byte p) m.0 in
      let o : q ≡ 6 = omega arith in
      then_gives (labels_gives p R (2 * vars) q (omega arith))
      (λ _ at g. body_gives (version_marked (version p) m.1) (omega arith) (omega arith) (rw (v, o) at g.2) vars at v (omega arith)))))
      (fails (omega arith))

  pub program_parts : {x : Stmt} {end : ℕ} → read_program p P R ≡ got x end → ProgramParts p P R x end
  program_parts e = gives_got (rw e at program_gives)

  pub program_number : {k place : ℕ} → read_program p P R ≡ bad k place → ReadNumber k
  program_number e = fails_bad (rw e at program_gives)

  -- the 16 bits of what is read as a program are its version, so they say 1 or 2
  pub version_stated : {x : Stmt} {end : ℕ} → read_program p P R ≡ got x end → word p 3 2 ≡ version p
  version_stated e = (program_parts e).stated
