-- A law for each return of verdict.rt: a program that was read stands for its tree from the first byte of its body on.
use mathlib.Core.Path.{◌≡◌, refl, sym, ap, ◌∙◌}
use Prim.Native.Nat.{ℕ, ◌+◌, ◌*◌, ◌<◌}
use native.Mathlib.Omega.{arith}
use mathlib.Core.List.{List, []}
use native.Mathlib.Nat.{lt_of_lt_of_le}
use lib.Bits.{or_zero_r}
use lib.ListN.{length}
use native.Mathlib.Decide.{dec_lt}
use borrow.Author.Tests.{ne_eqb, lt-leb}
use Rattle.model.specs.Limits.{program_bytes, statement_depth}
use Rattle.model.specs.Number.{Verdict as Judgement, fine, refused, program_length}
use Rattle.model.specs.Policy.{reading, trust, principals, roles, policy_number, Accepted}
use Rattle.model.specs.Syntax.{Stmt}
use Rattle.model.specs.Program.{Read as Reading, got, bad, variables, body_at, read_program}
use Rattle.model.specs.Flow.{outside, flow, body_verdict, program_verdict}
use Rattle.model.proofs.Accepted.{accepted_facts}
use Rattle.model.proofs.Reading.{ProgramParts, program_parts}
use Rattle.order.specs.Table.{Table, Knows}
use Rattle.std.specs.Prelude.{⊤, Result, Ok, Err, IsErrAnd}
use Rattle.program.specs.declared.refused.Refused.{Refused}
use Rattle.program.specs.Answer.{reached, place_limit, refusal, end_of}
use Rattle.program.specs.Refused.{tells, Answers}
use Rattle.program.proofs.RefusedLaws.{number_kept, place_kept, answers_tell}
use Rattle.gathered.specs.Words.{expr_roles}
use Rattle.gathered.specs.declared.labels.Labels.{Labels}
use Rattle.gathered.specs.Labels.{LabelsBelow, labels_added, all_below, AllAdded}
use Rattle.context.specs.declared.around.Around.TheVariants as around
use Rattle.context.specs.Context.{carried, empty_context}
use Rattle.rules.specs.Check.{Outside, Free, Writes, checked_to, CheckedAt}
use Rattle.verdict.specs.Verdict.{verdict_of, BodyVerdict}
use Rattle.context.proofs.ContextLaws.{context_none}
use Rattle.flow.proofs.CheckLaws.{reached_not, few_roles}

-- the labels of a program that was read
labels_below : (p : List ℕ) (P R : ℕ) {x : Stmt} {end : ℕ} → ProgramParts p P R x end → LabelsBelow R p (variables p)
unfolding LabelsBelow
labels_below p P R u reading v l n = u.labels (2 * v) (omega arith) n
labels_below p P R u trust v l n = let k : 6 + (2 * v + 1) ≡ 7 + 2 * v = omega arith in rw k at (u.labels (2 * v + 1) (omega arith)) n

-- so long as a program may be
program_short : (p : List ℕ) (P R : ℕ) {x : Stmt} {end : ℕ} → read_program p P R ≡ got x end → length p < place_limit
unfolding read_program
program_short p P R {x} {end} h = go (dec_lt program_bytes (length p))
  where
    go : Dec (program_bytes < length p) → length p < place_limit
    go (yes l) = let z : bad program_length program_bytes ≡ got x end = rw (lt-leb (length p) program_bytes l) at h in (let q : ◌≡◌ {A = ℕ} 0 1 = cc in omega arith)
    go (no n) = omega arith

module _ (s p : List ℕ) (t : Table) (n start : ℕ) (w : Labels) (ok : Accepted s) (k : Knows s [] t) (e₁ : n ≡ variables p) (e₂ : start ≡ body_at n)
    (all : AllAdded p n (record { readers = 0; trusters = 0 }) w) where
  -- no transaction around it, and the roles among the labels of all variables
  body_outside : LabelsBelow (roles s) p (variables p) → Outside p (variables p) w
  unfolding LabelsBelow AllAdded
  body_outside below =
      let e : w ≡ labels_added p (all_below (variables p)) (record { readers = 0; trusters = 0 }) = rw e₁ at all (λ side x l n. lt_of_lt_of_le (below side x l n) (accepted_facts s ok).roles_fit) in
      record {
        readers_are = ap (λ (l : Labels). l.readers) e ∙ or_zero_r (expr_roles p reading (all_below (variables p)));
        trusters_are = ap (λ (l : Labels). l.trusters) e ∙ or_zero_r (expr_roles p trust (all_below (variables p)));
      }

  body_is : (o : Result ℕ Refused) → CheckedAt s p t (carried (around.Outside w) empty_context) statement_depth start o → (x : Stmt) (end : ℕ) → read_program p (principals s) (roles s) ≡ got x end → tells o ≡ checked_to (flow s p outside [] (λ side. []) x) end
  unfolding CheckedAt Writes Free
  body_is o f x end h =
      let u = program_parts p (principals s) (roles s) h in
      let at : start ≡ 6 + 2 * variables p = omega arith in
      let below = labels_below p (principals s) (roles s) u in
      f outside [] (λ side. []) x end (record {
        is_accepted = ok;
        short = program_short p (principals s) (roles s) h;
        few = u.few;
        labels = below;
        knows = k;
        surrounded = body_outside below;
        met = tt;
        free = λ _. tt;
        context = context_none (roles s);
      }) (rw at u.body_read) (u.fits, tt)

  pub body_fine : (m : ℕ) → CheckedAt s p t (carried (around.Outside w) empty_context) statement_depth start (Ok m) → BodyVerdict s p (Ok tt)
  unfolding BodyVerdict checked_to
  body_fine m f x end h = go (flow s p outside [] (λ side. []) x) (body_is (Ok m) f x end h)
    where
      go : (v : Judgement) → reached m ≡ checked_to v end → fine ≡ v
      go fine e = refl
      go (refused n place) e = reached_not e

  -- the refusal of the check is passed on as it came
  pub body_refused : (e : Refused) (r : Result ⊤ Refused) → CheckedAt s p t (carried (around.Outside w) empty_context) statement_depth start (Err e) → IsErrAnd r (λ x. x ≡ e) → BodyVerdict s p r
  unfolding BodyVerdict checked_to
  body_refused e (Err y) f q x end h = rw q (go (flow s p outside [] (λ side. []) x) (body_is (Err e) f x end h))
    where
      go : (v : Judgement) → tells (Err e) ≡ checked_to v end → verdict_of (Err e) ≡ v
      go fine k = reached_not (sym k)
      go (refused m n) k = cc
  body_refused e (Ok _) f q x end h = elim q [ ]

pub ruleset bodies = (body_fine, body_refused)

-- the reading
module _ (s p : List ℕ) (P R : ℕ) (e₁ : P ≡ principals s) (e₂ : R ≡ roles s) where
  -- the refusal of a reading is passed on as it came
  pub read_refused : (e : Refused) (r : Result ⊤ Refused) → Answers (Err e) (end_of (read_program p P R)) → IsErrAnd r (λ x. x ≡ e) → verdict_of r ≡ body_verdict s p (read_program p (principals s) (roles s))
  unfolding end_of body_verdict
  read_refused e (Err x) h q = rw q (go (read_program p (principals s) (roles s)) (answers_tell (Err e) _ h ∙ rw (e₁, e₂)))
    where
      go : (b : Reading Stmt) → tells (Err e) ≡ end_of b → verdict_of (Err e) ≡ body_verdict s p b
      go (got x end) k = reached_not (sym k)
      go (bad m q) k = cc
  read_refused e (Ok _) h q = elim q [ ]

  pub read_body : (m : ℕ) (r : Result ⊤ Refused) → Answers (Ok m) (end_of (read_program p P R)) → BodyVerdict s p r → verdict_of r ≡ body_verdict s p (read_program p (principals s) (roles s))
  unfolding BodyVerdict end_of body_verdict
  read_body m r h f = go (read_program p (principals s) (roles s)) (answers_tell (Ok m) _ h ∙ rw (e₁, e₂)) f
    where
      go : (b : Reading Stmt) → reached m ≡ end_of b → ((x : Stmt) (end : ℕ) → b ≡ got x end → verdict_of r ≡ flow s p outside [] (λ side. []) x) → verdict_of r ≡ body_verdict s p b
      go (got x end) e f = f x end refl
      go (bad k q) e f = reached_not e

pub ruleset reads = (few_roles, read_refused, read_body)

-- the policy's number
module _ (s p : List ℕ) (n : ℕ) (e : n ≡ policy_number s) where
  pub policy_refused : (r : Refused) → (n ≡ 0 → ⊥) → r.word ≡ refusal n 0 → verdict_of (Err r) ≡ program_verdict s p
  unfolding program_verdict
  policy_refused r k h = rw (number_kept r n 0 h, place_kept r n 0 h (omega arith)) (rw (e, ne_eqb (policy_number s) 0 (λ z. k (e ∙ z))))

  pub policy_accepted : n ≡ 0 → Accepted s
  policy_accepted h = sym e ∙ h

  pub policy_fine : (r : Result ⊤ Refused) → n ≡ 0 → verdict_of r ≡ body_verdict s p (read_program p (principals s) (roles s)) → verdict_of r ≡ program_verdict s p
  unfolding program_verdict
  policy_fine r h f = rw (sym e ∙ h) f

pub ruleset policies = (policy_refused, policy_accepted, policy_fine)
