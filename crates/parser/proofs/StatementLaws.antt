-- A law for each return of statements.rt: the definition goes by the code, with one less of depth for what it holds.
use Rattle.std.proofs.Common.{Result, Ok, Err}
use Rattle.std.specs.Prelude.{IsErrAnd}
use mathlib.Core.Path.{◌≡◌, refl, sym, ◌∙◌}
use Prim.Native.Nat.{ℕ, zero, suc, ◌+◌, ◌-◌, ◌<◌, ◌≤◌}
use mathlib.Core.List.{List}
use mathlib.Core.Bool.{Bool, true, false, false≢true}
use native.Mathlib.Omega.{arith}
use native.Mathlib.Numerals.{sub-one}
use lib.Dec.{eqb, ltb, leb}
use lib.ListN.{length}
use borrow.Author.Tests.{lt-ltb, le-leb, lt-leb, eqb-true}
use Rattle.model.specs.Limits.{expression_depth, list_limit}
use Rattle.model.specs.Number.{program_code}
use Rattle.model.specs.Bytes.{byte}
use Rattle.model.specs.Syntax.{Stmt, skip, if, while, query, transaction}
use Rattle.model.specs.Program.{Read as Reading, got, bad, and_then, read_byte, read_below, read_many, read_expr, read_query, read_mutation, block_of, assign_at, block_at, if_at, while_at, query_at, update_at, transaction_at, stmt_at, read_stmt}
use Rattle.program.specs.declared.codes.Statement.{Statement}
use Rattle.program.specs.declared.codes.Statement.TheVariants.{Skip, Assign, Block, If, While, Query, Update, Transaction}
use Rattle.program.specs.Answer.{Reached, reached, stopped, place_limit, end_of, read_assign, read_update, FindsCode}
use Rattle.program.specs.Codes.{statement_of}
use Rattle.program.specs.Refused.{Answers}
use Rattle.program.specs.declared.refused.Refused.{Refused}
use Rattle.program.proofs.CodeLaws.{through}
use Rattle.program.specs.Skips.{Skips}
use Rattle.program.proofs.SkipLaws.{skips_low, over_row}
use Rattle.program.proofs.AnswerLaws.{then_last, then_end, then_same, pick_same, byte_there, byte_missing, many_next}
use Rattle.program.proofs.RefusedLaws.{made, many, position_low, answer_at, goes_on, stops, answers_same}
use Rattle.program.specs.declared.codes.UnknownCode.{UnknownCode}

-- an assignment
module _ (s : List ℕ) (v at : ℕ) (r : Result ℕ Refused) where
  pub assign_target : (e : Refused) → Answers (Err e) (end_of (read_below s v at)) → IsErrAnd r (λ y. y ≡ e) → Answers r (end_of (read_assign s v at))
  unfolding read_assign
  assign_target e h q = stops (read_below s v at) _ e r h q

  pub assign_value : (a : ℕ) → Answers (Ok a) (end_of (read_below s v at)) → Answers r (end_of (read_expr s v expression_depth a)) → Answers r (end_of (read_assign s v at))
  unfolding read_assign
  assign_value a h g = goes_on (read_below s v at) _ a r h (λ x. g)

pub ruleset assigns = (assign_target, assign_value, position_low)

-- an update
module _ (s : List ℕ) (P R at : ℕ) where
  pub update_missing : length s ≤ at → stopped 10 (length s) ≡ end_of (read_update s P R at)
  unfolding read_update
  update_missing h = byte_missing s at _ h

  module _ (l : at < length s) where
    pub update_none : byte s at ≡ 0 → stopped 13 at ≡ end_of (read_update s P R at)
    unfolding read_update end_of
    update_none e = rw (byte_there s at _ l, e)

    module _ (n : byte s at ≡ 0 → ⊥) where
      pub update_many : list_limit < byte s at → stopped 13 at ≡ end_of (read_update s P R at)
      unfolding read_update end_of
      update_many h = let g : 0 < byte s at = omega arith in rw (byte_there s at _ l) (simp (lt-ltb _ _ g, lt-leb _ _ h))

      pub update_read : (r : Result ℕ Refused) → byte s at ≤ list_limit → Answers r (end_of (read_many (read_mutation s P R) (byte s at) (at + 1))) → Answers r (end_of (read_update s P R at))
      unfolding read_update
      update_read r h e =
          let g : (byte s at ≡ 0 → ⊥) → 0 < byte s at = λ m. omega arith in
          rw (byte_there s at _ l) (simp (lt-ltb _ _ (g n), le-leb _ _ h) e)

pub ruleset updates = (update_missing, update_none, update_many, update_read, made)

module _ (s : List ℕ) (P R v : ℕ) (sub : ℕ → Reading Stmt) where
  -- a block: its loop begins with all its statements left
  pub block_missing : (at : ℕ) → length s ≤ at → stopped 10 (length s) ≡ end_of (block_at s P R v sub at)
  unfolding block_at
  block_missing at h = byte_missing s at _ h

  pub block_begins : (at : ℕ) → at < length s → end_of (read_many sub (byte s at) (at + 1)) ≡ end_of (block_at s P R v sub at)
  unfolding block_at
  block_begins at l = rw (byte_there s at _ l) (then_last (read_many sub (byte s at) (at + 1)) block_of)

  module _ (at : ℕ) (r : Result ℕ Refused) where
    -- an if and a while: the test, then what they hold
    module _ (e : Refused) (h : Answers (Err e) (end_of (read_expr s v expression_depth at))) (q : IsErrAnd r (λ y. y ≡ e)) where
      pub if_test : Answers r (end_of (if_at s P R v sub at))
      unfolding if_at
      if_test = stops (read_expr s v expression_depth at) _ e r h q

      pub while_test : Answers r (end_of (while_at s P R v sub at))
      unfolding while_at
      while_test = stops (read_expr s v expression_depth at) _ e r h q

    module _ (t : ℕ) (h : Answers (Ok t) (end_of (read_expr s v expression_depth at))) where
      pub while_body : Answers r (end_of (sub t)) → Answers r (end_of (while_at s P R v sub at))
      unfolding while_at
      while_body g = goes_on (read_expr s v expression_depth at) _ t r h (λ x. answers_same r (then_last (sub t) (while x)) g)

      pub if_first : (e : Refused) → Answers (Err e) (end_of (sub t)) → IsErrAnd r (λ y. y ≡ e) → Answers r (end_of (if_at s P R v sub at))
      unfolding if_at
      if_first e g q = goes_on (read_expr s v expression_depth at) _ t r h (λ x. stops (sub t) _ e r g q)

      pub if_second : (a : ℕ) → Answers (Ok a) (end_of (sub t)) → Answers r (end_of (sub a)) → Answers r (end_of (if_at s P R v sub at))
      unfolding if_at
      if_second a i j =
          goes_on (read_expr s v expression_depth at) _ t r h (λ x. goes_on (sub t) _ a r i (λ y. answers_same r (then_last (sub a) (if x y)) j))

    -- a query: its atoms, then what it holds
    module _ (place : ℕ) where
      pub query_atoms : (e : Refused) → Answers (Err e) (end_of (read_query s R at)) → IsErrAnd r (λ y. y ≡ e) → Answers r (end_of (query_at s P R v sub place at))
      unfolding query_at
      query_atoms e h q = stops (read_query s R at) _ e r h q

      module _ (t : ℕ) (h : Answers (Ok t) (end_of (read_query s R at))) where
        pub query_first : (e : Refused) → Answers (Err e) (end_of (sub t)) → IsErrAnd r (λ y. y ≡ e) → Answers r (end_of (query_at s P R v sub place at))
        unfolding query_at
        query_first e g q = goes_on (read_query s R at) _ t r h (λ x. stops (sub t) _ e r g q)

        pub query_second : (a : ℕ) → Answers (Ok a) (end_of (sub t)) → Answers r (end_of (sub a)) → Answers r (end_of (query_at s P R v sub place at))
        unfolding query_at
        query_second a i j =
            goes_on (read_query s R at) _ t r h (λ x. goes_on (sub t) _ a r i (λ y. answers_same r (then_last (sub a) (query place x y)) j))

  -- a transaction: n, its list, its body
  module _ (place at : ℕ) where
    pub transaction_missing : length s ≤ at → stopped 10 (length s) ≡ end_of (transaction_at s P R v sub place at)
    unfolding transaction_at
    transaction_missing h = byte_missing s at _ h

    module _ (l : at < length s) where
      pub transaction_many : list_limit < byte s at → stopped 13 at ≡ end_of (transaction_at s P R v sub place at)
      unfolding transaction_at end_of
      transaction_many h = rw (byte_there s at _ l) (simp (lt-leb _ _ h))

      module _ (n : byte s at ≤ list_limit) (r : Result ℕ Refused) where
        pub transaction_list : (e : Refused) → Answers (Err e) (end_of (read_many (read_query s R) (byte s at) (at + 1))) → IsErrAnd r (λ y. y ≡ e) → Answers r (end_of (transaction_at s P R v sub place at))
        unfolding transaction_at
        transaction_list e h q =
            rw (byte_there s at _ l) (simp (le-leb _ _ n) (stops (read_many (read_query s R) (byte s at) (at + 1)) _ e r h q))

        pub transaction_body : (t : ℕ) → Answers (Ok t) (end_of (read_many (read_query s R) (byte s at) (at + 1))) → Answers r (end_of (sub t)) → Answers r (end_of (transaction_at s P R v sub place at))
        unfolding transaction_at
        transaction_body t h g =
            rw (byte_there s at _ l)
            (simp (le-leb _ _ n) (goes_on (read_many (read_query s R) (byte s at) (at + 1)) _ t r h (λ qs. answers_same r (then_end (sub t) (λ a end. transaction place t end qs a)) g)))

  -- an answer does not keep the place
  assign_same : (at next : ℕ) → end_of (read_assign s v next) ≡ end_of (assign_at s P R v sub at next)
  unfolding read_assign assign_at
  assign_same at next = then_same (read_below s v next) _ _ (λ x mid. then_last (read_expr s v expression_depth mid) _)

  update_same : (at next : ℕ) → end_of (read_update s P R next) ≡ end_of (update_at s P R v sub at next)
  unfolding read_update update_at
  update_same at next =
      then_same (read_byte s next) _ _
      (λ n mid. pick_same (ltb 0 n) _ _ _ _ (pick_same (leb n list_limit) _ _ _ _ (then_last (read_many (read_mutation s P R) n mid) _)))

  query_same : (at place next : ℕ) → end_of (query_at s P R v sub place next) ≡ end_of (query_at s P R v sub at next)
  unfolding query_at end_of
  query_same at place next =
      then_same (read_query s R next) _ _ (λ x p. then_same (sub p) _ _ (λ y q. then_same (sub q) _ _ (λ z end. refl)))

  transaction_same : (at place next : ℕ) → end_of (transaction_at s P R v sub place next) ≡ end_of (transaction_at s P R v sub at next)
  unfolding transaction_at end_of
  transaction_same at place next =
      then_same (read_byte s next) _ _
      (λ n mid. pick_same (leb n list_limit) _ _ _ _ (then_same (read_many (read_query s R) n mid) _ _ (λ x p. then_same (sub p) _ _ (λ y end. refl))))

  -- a statement, by its code
  module _ (at next : ℕ) where
    coded : (Result Statement UnknownCode) → Reading Stmt
    coded (Ok Skip) = got skip next
    coded (Ok Assign) = assign_at s P R v sub at next
    coded (Ok Block) = block_at s P R v sub next
    coded (Ok If) = if_at s P R v sub next
    coded (Ok While) = while_at s P R v sub next
    coded (Ok Query) = query_at s P R v sub at next
    coded (Ok Update) = update_at s P R v sub at next
    coded (Ok Transaction) = transaction_at s P R v sub at next
    coded (Err _) = bad program_code at

    by_code : (x : ℕ) → stmt_at s P R v sub at x next ≡ coded (statement_of x)
    unfolding stmt_at statement_of coded
    by_code x =
        through coded (eqb x 0) (Ok Skip) (through coded (eqb x 1) (Ok Assign) (through coded (eqb x 2) (Ok Block) (through coded (eqb x 3) (Ok If)
        (through coded (eqb x 4) (Ok While) (through coded (eqb x 5) (Ok Query) (through coded (eqb x 6) (Ok Update) (through coded (eqb x 7) (Ok Transaction) refl)))))))

pub ruleset blocks = (block_missing, block_begins, many)

pub ruleset ifs = (if_test, if_first, if_second, position_low)

pub ruleset whiles = (while_test, while_body, position_low)

pub ruleset queries = (query_atoms, query_first, query_second, position_low)

pub ruleset transactions = (transaction_missing, transaction_many, transaction_list, transaction_body, position_low, made)

pub stmt_deep : (s : List ℕ) (P R v d at : ℕ) → d ≡ 0 → stopped 14 at ≡ end_of (read_stmt s P R v d at)
unfolding read_stmt end_of
stmt_deep s P R v d at e = rw e

step : (s : List ℕ) (P R v d at : ℕ) → (d ≡ 0 → ⊥) → read_stmt s P R v d at ≡ and_then (read_byte s at) (stmt_at s P R v (read_stmt s P R v (d - 1)) at)
unfolding read_stmt
step s P R v zero at f = absurd (f refl)
step s P R v (suc d) at f = rw sub-one

module _ (s : List ℕ) (P R v d at : ℕ) (f : d ≡ 0 → ⊥) where
  pub stmt_missing : length s ≤ at → stopped 10 (length s) ≡ end_of (read_stmt s P R v d at)
  stmt_missing h = rw (step s P R v d at f) (byte_missing s at _ h)

  module _ (l : at < length s) (k : (Result Statement UnknownCode)) (e : k ≡ statement_of (byte s at)) where
    here : read_stmt s P R v d at ≡ coded s P R v (read_stmt s P R v (d - 1)) at (at + 1) k
    here = step s P R v d at f ∙ byte_there s at _ l ∙ by_code s P R v (read_stmt s P R v (d - 1)) at (at + 1) (byte s at) ∙ rw e

    pub stmt_unknown : k ≡ (Err (record {})) → stopped 12 at ≡ end_of (read_stmt s P R v d at)
    unfolding coded end_of
    stmt_unknown h = rw (here, h)

    module _ (x : Statement) (h : k ≡ Ok x) where
      pub stmt_skip : x ≡ Skip → reached (at + 1) ≡ end_of (read_stmt s P R v d at)
      unfolding coded end_of
      stmt_skip g = rw (here, h, g)

      module _ (r : Result ℕ Refused) where
        pub stmt_assign : x ≡ Assign → Answers r (end_of (read_assign s v (at + 1))) → Answers r (end_of (read_stmt s P R v d at))
        unfolding coded
        stmt_assign g i = rw (here, h, g) (answers_same r (assign_same s P R v (read_stmt s P R v (d - 1)) at (at + 1)) i)

        pub stmt_block : x ≡ Block → Answers r (end_of (block_at s P R v (read_stmt s P R v (d - 1)) (at + 1))) → Answers r (end_of (read_stmt s P R v d at))
        unfolding coded
        stmt_block g i = rw (here, h, g) i

        pub stmt_if : x ≡ If → Answers r (end_of (if_at s P R v (read_stmt s P R v (d - 1)) (at + 1))) → Answers r (end_of (read_stmt s P R v d at))
        unfolding coded
        stmt_if g i = rw (here, h, g) i

        pub stmt_while : x ≡ While → Answers r (end_of (while_at s P R v (read_stmt s P R v (d - 1)) (at + 1))) → Answers r (end_of (read_stmt s P R v d at))
        unfolding coded
        stmt_while g i = rw (here, h, g) i

        pub stmt_query : (place : ℕ) → x ≡ Query → Answers r (end_of (query_at s P R v (read_stmt s P R v (d - 1)) place (at + 1))) → Answers r (end_of (read_stmt s P R v d at))
        unfolding coded
        stmt_query place g i = rw (here, h, g) (answers_same r (query_same s P R v (read_stmt s P R v (d - 1)) at place (at + 1)) i)

        pub stmt_update : x ≡ Update → Answers r (end_of (read_update s P R (at + 1))) → Answers r (end_of (read_stmt s P R v d at))
        unfolding coded
        stmt_update g i = rw (here, h, g) (answers_same r (update_same s P R v (read_stmt s P R v (d - 1)) at (at + 1)) i)

        pub stmt_transaction : (place : ℕ) → x ≡ Transaction → Answers r (end_of (transaction_at s P R v (read_stmt s P R v (d - 1)) place (at + 1))) → Answers r (end_of (read_stmt s P R v d at))
        unfolding coded
        stmt_transaction place g i = rw (here, h, g) (answers_same r (transaction_same s P R v (read_stmt s P R v (d - 1)) at place (at + 1)) i)

-- a code that is looked for
module _ (s : List ℕ) (d at code : ℕ) where
  pub code_not : FindsCode s d at code false
  unfolding FindsCode
  code_not e = absurd (false≢true e)

  pub code_is : (b : Bool) → (d ≡ 0 → ⊥) → at < length s → b ≡ eqb (byte s at) code → FindsCode s d at code b
  unfolding FindsCode
  code_is b f l e h = record { deep = f; there = l; is = eqb-true (byte s at) code (sym e ∙ h) }

-- skips in a row
skips_passed : (s : List ℕ) (P R v d at i : ℕ) (r : Reached) → (d ≡ 0 → ⊥) → (n : ℕ) → Skips s at n → end_of (read_many (read_stmt s P R v d) i at) ≡ r → n ≤ i
    → end_of (read_many (read_stmt s P R v d) (i - n) (at + n)) ≡ r
unfolding statement_of
skips_passed s P R v d at i r f n row e few =
    over_row s (λ left next. end_of (read_many (read_stmt s P R v d) left next) ≡ r)
    (λ left next h some l z. many_next (read_stmt s P R v d) left next (next + 1) r h some (stmt_skip s P R v d next f l (Ok Skip) (rw z) Skip refl refl))
    at n i row e few

-- a code that is found
module _ (s : List ℕ) (d at : ℕ) where
  module _ (code : ℕ) (b : Bool) (f : FindsCode s d at code b) (h : b ≡ true) where
    found_there : at < length s
    unfolding FindsCode
    found_there = (f h).there

    pub found_low : length s < place_limit → at + 1 < place_limit
    found_low l = omega (arith, found_there)

  -- a skip, which a block passes over
  module _ (b : Bool) (f : FindsCode s d at 0 b) (h : b ≡ true) where
    skip_passed : (P R v i : ℕ) (r : Reached) → end_of (read_many (read_stmt s P R v d) i at) ≡ r → 0 < i → end_of (read_many (read_stmt s P R v d) (i - 1) (at + 1)) ≡ r
    unfolding FindsCode statement_of
    skip_passed P R v i r e l =
        let k = f h in
        many_next (read_stmt s P R v d) i at (at + 1) r e l (stmt_skip s P R v d at k.deep k.there (Ok Skip) (rw k.is) Skip refl refl)

    -- and with it those behind it
    module _ (n q : ℕ) (row : Skips s (at + 1) n) (q-is : q ≡ at + 1 + n) where
      pub row_low : length s < place_limit → q < place_limit
      row_low l = rw q-is (skips_low s (at + 1) n row l (found_low 0 b f h l))

      pub row_passed : (P R v i : ℕ) (r : Reached) → end_of (read_many (read_stmt s P R v d) i at) ≡ r → 0 < i → n ≤ i - 1
          → end_of (read_many (read_stmt s P R v d) (i - 1 - n) q) ≡ r
      unfolding FindsCode
      row_passed P R v i r e l few = rw q-is (skips_passed s P R v d (at + 1) (i - 1) r (f h).deep n row (skip_passed P R v i r e l) few)

    -- and a branch that is one
    pub skip_branch : (P R v : ℕ) → length s < place_limit → Answers (Ok (at + 1)) (end_of (read_stmt s P R v d at))
    unfolding FindsCode statement_of
    skip_branch P R v l = let k = f h in answer_at (at + 1) _ (found_low 0 b f h l) (stmt_skip s P R v d at k.deep k.there (Ok Skip) (rw k.is) Skip refl refl)

  -- a block's assignment and update
  module _ (P R v : ℕ) (r : Result ℕ Refused) (b : Bool) where
    pub part_assign : FindsCode s d at 1 b → b ≡ true → Answers r (end_of (read_assign s v (at + 1))) → Answers r (end_of (read_stmt s P R v d at))
    unfolding FindsCode statement_of
    part_assign f h e = let k = f h in stmt_assign s P R v d at k.deep k.there (Ok Assign) (rw k.is) Assign refl r refl e

    pub part_update : FindsCode s d at 6 b → b ≡ true → Answers r (end_of (read_update s P R (at + 1))) → Answers r (end_of (read_stmt s P R v d at))
    unfolding FindsCode statement_of
    part_update f h e = let k = f h in stmt_update s P R v d at k.deep k.there (Ok Update) (rw k.is) Update refl r refl e

pub ruleset codes = (code_not, code_is)

pub ruleset skips = (found_low, row_low, row_passed)

pub ruleset parts = (found_low, part_assign, part_update)

pub ruleset statements = (stmt_deep, stmt_missing, stmt_unknown, stmt_skip, stmt_assign, stmt_block, stmt_if, stmt_while, stmt_query, stmt_update, stmt_transaction, made)
