-- A law for each return of file.rt: what was read so far says which case of the definition is left.
use mathlib.Core.Path.{◌≡◌, sym, ◌∙◌}
use Rattle.std.specs.Prelude.{Result, Ok, Err, IsErrAnd}
use mathlib.Core.Logic.{⊎_elim}
use Prim.Native.Nat.{ℕ, suc, ◌+◌, ◌*◌, ◌<◌, ◌≤◌}
use mathlib.Core.List.{List, [], ◌∷◌}
use mathlib.Core.Bool.{Bool, true, false, cond}
use native.Mathlib.Omega.{arith}
use native.Mathlib.Numerals.{add-one}
use native.Mathlib.Nat.{add-zero, zero-add}
use native.Mathlib.Decide.{dec_lt}
use lib.Dec.{eqb, leb, eqb-zero-suc, eqb-suc-suc}
use lib.ListN.{length, drop, drop_of_length-le}
use lib.Seq.{drop-cons}
use borrow.Author.Tests.{le-leb, lt-leb, eq-eqb, ne_eqb}
use Rattle.model.specs.Limits.{program_bytes, variable_limit, statement_depth}
use Rattle.model.specs.Number.{program_mark}
use Rattle.model.specs.Bytes.{byte}
use Rattle.model.specs.Program.{bad, and_then, read_below, read_mark, read_many, read_label, read_stmt, read_body, read_program, version, program_head}
use Rattle.model.proofs.Reading.{one_or_two}
use Rattle.shared.specs.Marks.{matching}
use Rattle.program.specs.Answer.{Reached, reached, stopped, end_of, read_variables}
use Rattle.program.specs.Refused.{Answers}
use Rattle.program.specs.declared.refused.Refused.{Refused}
use Rattle.program.proofs.AnswerLaws.{then_reached, then_stopped, byte_there, byte_missing}
use Rattle.program.proofs.RefusedLaws.{made, position_told, position_low, goes_on, stops}
use Rattle.program.proofs.AtomLaws.{below_missing, below_large, below_read}

-- a mark, of which the bytes match the first k: read whole, or stopped at the first byte that is missing or differs
mark_end : ℕ → ℕ → ℕ → ℕ → Reached
mark_end size long at k = cond (eqb k long) (reached (at + k)) (cond (leb size (at + k)) (stopped 10 size) (stopped 11 (at + k)))

module _ (size long at : ℕ) where
  -- one byte more of the mark and one byte on
  mark_shift : (k : ℕ) → mark_end size long (suc at) k ≡ mark_end size (suc long) at (suc k)
  unfolding mark_end
  mark_shift k = let p : at + suc k ≡ suc at + k = omega arith in rw (eqb-suc-suc k long, p)

  mark_none : cond (leb size at) (stopped 10 size) (stopped 11 at) ≡ mark_end size (suc long) at 0
  unfolding mark_end
  mark_none = rw (eqb-zero-suc long, add-zero at)

mark_end_lem : (s m : List ℕ) (at : ℕ) → at ≤ length s → end_of (read_mark s m at) ≡ mark_end (length s) (length m) at (matching (drop at s) m)
unfolding read_mark end_of matching mark_end
mark_end_lem s [] at h = rw (add-zero at)
mark_end_lem s (y ∷ m) at h = go (dec_lt at (length s)) (λ l. mark_end_lem s m (suc at) l)
  where
    turn : (b : Bool) → at < length s → end_of (read_mark s m (suc at)) ≡ mark_end (length s) (length m) (suc at) (matching (drop (suc at) s) m)
        → end_of (cond b (read_mark s m (suc at)) (bad program_mark at)) ≡ mark_end (length s) (suc (length m)) at (cond b (suc (matching (drop (suc at) s) m)) 0)
    turn true l e = e ∙ mark_shift (length s) (length m) at (matching (drop (suc at) s) m)
    turn false l e = rw (lt-leb _ _ l) at (mark_none (length s) (length m) at)

    go : Dec (at < length s) → (at < length s → end_of (read_mark s m (suc at)) ≡ mark_end (length s) (length m) (suc at) (matching (drop (suc at) s) m))
        → end_of (read_mark s (y ∷ m) at) ≡ mark_end (length s) (suc (length m)) at (matching (drop at s) (y ∷ m))
    go (yes l) f = rw (byte_there s at _ l, drop-cons s at 0 l, add-one at) (turn (eqb (byte s at) y) l (f l))
    go (no n) f =
        let g : length s ≤ at = omega arith in
        rw (drop_of_length-le s {i = at} g) (sym (byte_missing s at _ g) ∙ (rw (le-leb _ _ g) at (mark_none (length s) (length m) at)))

module _ (s m : List ℕ) (k : ℕ) (e : k ≡ matching s m) where
  there : mark_end (length s) (length m) 0 k ≡ end_of (read_mark s m 0)
  there = rw e (sym (mark_end_lem s m 0 (omega arith)))

  pub mark_read : k ≡ length m → reached k ≡ end_of (read_mark s m 0)
  unfolding mark_end
  mark_read h = simp (eq-eqb _ _ h, zero-add) at there

  module _ (n : k ≡ length m → ⊥) where
    pub mark_missing : length s ≤ k → stopped 10 (length s) ≡ end_of (read_mark s m 0)
    unfolding mark_end
    mark_missing h = simp (ne_eqb _ _ n, zero-add, le-leb _ _ h) at there

    pub mark_differs : k < length s → stopped 11 k ≡ end_of (read_mark s m 0)
    unfolding mark_end
    mark_differs h = simp (ne_eqb _ _ n, zero-add, lt-leb _ _ h) at there

pub ruleset marks = (mark_read, mark_missing, mark_differs, made)

-- the head of the version that the program is of
module _ (s : List ℕ) (v : ℕ) (r : Result ℕ Refused) (e : v ≡ version s) where
  pub head_two : v ≡ 2 → Answers r (end_of (read_mark s (program_head 2) 0)) → Answers r (end_of (read_mark s (program_head (version s)) 0))
  head_two h g = rw (← e, h) g

  pub head_one : (v ≡ 2 → ⊥) → Answers r (end_of (read_mark s (program_head 1) 0)) → Answers r (end_of (read_mark s (program_head (version s)) 0))
  head_one n g = ⊎_elim (λ o. rw o g) (λ t. absurd (n (e ∙ t))) (one_or_two s)

pub ruleset heads = (head_two, head_one)

-- the body
module _ (s : List ℕ) (P R v at : ℕ) where
  pub body_refused : (e : Refused) (r : Result ℕ Refused) → Answers (Err e) (end_of (read_stmt s P R v statement_depth at)) → IsErrAnd r (λ y. y ≡ e) → Answers r (end_of (read_body s P R v at))
  unfolding read_body
  body_refused e r h q = stops (read_stmt s P R v statement_depth at) _ e r h q

  module _ (a : ℕ) (h : Answers (Ok a) (end_of (read_stmt s P R v statement_depth at))) where
    pub body_more : (a ≡ length s → ⊥) → stopped 10 a ≡ end_of (read_body s P R v at)
    unfolding read_body end_of
    body_more n = then_reached (read_stmt s P R v statement_depth at) _ (position_told a _ h) (λ x. simp (ne_eqb _ _ n))

    pub body_read : a ≡ length s → reached a ≡ end_of (read_body s P R v at)
    unfolding read_body end_of
    body_read n = then_reached (read_stmt s P R v statement_depth at) _ (position_told a _ h) (λ x. simp (eq-eqb _ _ n))

pub ruleset bodies = (body_refused, body_more, body_read, position_low, made)

-- V and the labels
module _ (s : List ℕ) (P R at : ℕ) where
  pub variables_missing : length s ≤ at → stopped 10 (length s) ≡ end_of (read_variables s P R at)
  unfolding read_variables
  variables_missing h = then_stopped (read_below s 65 at) _ (below_missing s 65 at h)

  module _ (l : at < length s) where
    pub variables_many : variable_limit < byte s at → stopped 13 at ≡ end_of (read_variables s P R at)
    unfolding read_variables
    variables_many h = then_stopped (read_below s 65 at) _ (below_large s 65 at l (omega arith))

    module _ (n : byte s at ≤ variable_limit) (r : Result ℕ Refused) where
      pub variables_labels : (e : Refused) → Answers (Err e) (end_of (read_many (read_label s R) (2 * byte s at) (at + 1))) → IsErrAnd r (λ y. y ≡ e) → Answers r (end_of (read_variables s P R at))
      unfolding read_variables and_then
      variables_labels e h q =
          rw (below_read s 65 at l (omega arith)) (stops (read_many (read_label s R) (2 * byte s at) (at + 1)) _ e r h q)

      pub variables_body : (a : ℕ) → Answers (Ok a) (end_of (read_many (read_label s R) (2 * byte s at) (at + 1))) → Answers r (end_of (read_body s P R (byte s at) a)) → Answers r (end_of (read_variables s P R at))
      unfolding read_variables and_then
      variables_body a h g =
          rw (below_read s 65 at l (omega arith)) (goes_on (read_many (read_label s R) (2 * byte s at) (at + 1)) _ a r h (λ x. g))

pub ruleset variables = (variables_missing, variables_many, variables_labels, variables_body, position_low, made)

-- the whole program
module _ (s : List ℕ) (P R : ℕ) where
  pub program_long : program_bytes < length s → stopped 10 program_bytes ≡ end_of (read_program s P R)
  unfolding read_program end_of
  program_long h = simp (lt-leb _ _ h)

  module _ (l : length s ≤ program_bytes) (r : Result ℕ Refused) where
    pub program_marked : (e : Refused) → Answers (Err e) (end_of (read_mark s (program_head (version s)) 0)) → IsErrAnd r (λ y. y ≡ e) → Answers r (end_of (read_program s P R))
    unfolding read_program
    program_marked e h q = simp (le-leb _ _ l) (stops (read_mark s (program_head (version s)) 0) _ e r h q)

    pub program_rest : (next : ℕ) → Answers (Ok next) (end_of (read_mark s (program_head (version s)) 0)) → Answers r (end_of (read_variables s P R next)) → Answers r (end_of (read_program s P R))
    unfolding read_program read_variables
    program_rest next h g = simp (le-leb _ _ l) (goes_on (read_mark s (program_head (version s)) 0) _ next r h (λ x. g))

pub ruleset programs = (program_long, program_marked, program_rest, position_low, made)
