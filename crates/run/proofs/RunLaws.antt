-- A law for each return of run.rt: what is refused changes nothing.
use Prim.Native.Nat.{ℕ, ◌*◌, ◌<◌, ◌≤◌}
use native.Mathlib.Omega.{arith}
use mathlib.Core.Path.{◌≡◌, refl, sym, ap, ◌∙◌}
use mathlib.Core.List.{List}
use mathlib.Core.Bool.{true, false, ◌&&◌}
use lib.Dec.{eqb, leb}
use lib.ListN.{length}
use borrow.Author.Tests.{eq-eqb, ne_eqb, le-leb, lt-leb}
use Rattle.model.specs.Limits.{fuel_limit}
use Rattle.model.specs.Number.{memory_length, fuel_range, fine, refused}
use Rattle.model.specs.Program.{variables}
use Rattle.model.specs.Flow.{program_verdict}
use Rattle.model.specs.Run.{refusal, run}
use Rattle.model.specs.Calls.{ended, end_of, run_answer}
use Rattle.model.proofs.FlowParts.{accepted_program}
use Rattle.std.specs.Prelude.{⊤, Result, Ok}
use Rattle.program.specs.declared.refused.Refused.{Refused}
use Rattle.verdict.specs.Verdict.{verdict_of}
use Rattle.execution.specs.declared.execute.Answer.{Answer}
use Rattle.execution.specs.Execution.{Admitted}

module _ (s p m : List ℕ) (fuel : ℕ) where
  verdict_refuses : {k place : ℕ} → program_verdict s p ≡ refused k place → run s p m fuel ≡ refusal k s m
  unfolding run
  verdict_refuses q = rw (q, run)

  memory_refuses : program_verdict s p ≡ fine → eqb (length m) (4 * variables p) ≡ false → run s p m fuel ≡ refusal memory_length s m
  unfolding run
  memory_refuses q e = rw (q, e, run)

  fuel_refuses : program_verdict s p ≡ fine → eqb (length m) (4 * variables p) ≡ true → (leb 1 fuel && leb fuel fuel_limit) ≡ false → run s p m fuel ≡ refusal fuel_range s m
  unfolding run
  fuel_refuses q e f = rw (q, e, f, run)

  refusal_ends : (k : ℕ) (r : Answer) → r ≡ record { number = k; units = 0 } → run s p m fuel ≡ refusal k s m → ended r.number r.units s m ≡ run_answer s p m fuel
  unfolding end_of
  refusal_ends k r e f = rw (e, f) refl

module _ (s p m : List ℕ) (fuel : ℕ) (r : Answer) where
  pub refused_verdict : (n place k : ℕ) → refused n place ≡ program_verdict s p → k ≡ n → r ≡ record { number = k; units = 0 } → ended r.number r.units s m ≡ run_answer s p m fuel
  refused_verdict n place k h e f = refusal_ends s p m fuel k r f (verdict_refuses s p m fuel (sym h ∙ ap (λ (i : ℕ). refused i place) (sym e)))

  module _ (fair : program_verdict s p ≡ fine) where
    pub refused_memory : (vars b : ℕ) → vars ≡ b → b ≡ variables p → (length m ≡ 4 * vars → ⊥) → r ≡ record { number = 20; units = 0 } → ended r.number r.units s m ≡ run_answer s p m fuel
    refused_memory vars b e f n g = refusal_ends s p m fuel 20 r g (memory_refuses s p m fuel fair (ne_eqb (length m) (4 * variables p) (λ q. n (q ∙ rw (e, f) refl))))

    module _ (vars b : ℕ) (e : vars ≡ b) (f : b ≡ variables p) (long : length m ≡ 4 * vars) where
      long_is : eqb (length m) (4 * variables p) ≡ true
      long_is = eq-eqb _ _ (long ∙ rw (e, f) refl)

      pub refused_none : fuel ≡ 0 → r ≡ record { number = 21; units = 0 } → ended r.number r.units s m ≡ run_answer s p m fuel
      refused_none z g = refusal_ends s p m fuel 21 r g (fuel_refuses s p m fuel fair long_is (rw z refl))

      pub refused_over : (fuel ≡ 0 → ⊥) → fuel_limit < fuel → r ≡ record { number = 21; units = 0 } → ended r.number r.units s m ≡ run_answer s p m fuel
      refused_over n l g = refusal_ends s p m fuel 21 r g (fuel_refuses s p m fuel fair long_is (rw (le-leb 1 fuel (omega arith), lt-leb fuel fuel_limit l) refl))

      pub admits : (fuel ≡ 0 → ⊥) → fuel ≤ fuel_limit → Admitted s p m vars fuel
      admits n l =
          record {
            begins = record { verdict = fair; program = accepted_program s p fair; memory_fits = long ∙ rw (e, f) refl; fuel_some = omega arith; fuel_limited = l };
            vars_are = e ∙ f;
          }

pub fine_verdict : (s p : List ℕ) (v : Result ⊤ Refused) → verdict_of v ≡ program_verdict s p → v ≡ Ok tt → program_verdict s p ≡ fine
fine_verdict s p v h e = sym h ∙ ap verdict_of e

pub ruleset refusals = (fine_verdict, refused_verdict, refused_memory, refused_none, refused_over, admits)
