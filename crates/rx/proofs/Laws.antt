-- A law for each return: what the flow checker's answer says of the verdict.
use mathlib.Core.Path.{◌≡◌, sym, ap, ◌∙◌}
use Prim.Native.Nat.{ℕ, ◌/◌, ◌%◌}
use mathlib.Core.List.{List}
use Rattle.model.specs.Number.{fine, refused, number_of}
use Rattle.model.specs.Flow.{part, program_verdict, transaction_part}
use Rattle.model.specs.Calls.{located, locate, body, body_of, part_bytes}
use Rattle.model.proofs.Bodies.{transaction_none}
use Rattle.std.specs.Prelude.{⊤, Result, Ok, Err}
use Rattle.program.specs.Answer.{place_limit}
use Rattle.program.specs.declared.refused.Refused.{Refused}
use Rattle.verdict.specs.Verdict.{verdict_of}

module _ (s p : List ℕ) (a : Result ⊤ Refused) (h : verdict_of a ≡ program_verdict s p) where
  module _ (e : a ≡ Ok tt) where
    pub accepted_verdict : program_verdict s p ≡ fine
    accepted_verdict = sym h ∙ ap verdict_of e

    pub accepted_number : 0 ≡ number_of (program_verdict s p)
    accepted_number = rw accepted_verdict

    pub accepted_place : located 0 0 ≡ locate (program_verdict s p)
    unfolding locate
    accepted_place = rw accepted_verdict

    pub accepted_body : (k start size : ℕ) → part start size ≡ transaction_part s p k → body 0 start size ≡ body_of (program_verdict s p) (transaction_part s p k)
    unfolding body_of
    accepted_body k start size g = rw (← g, accepted_verdict)

    pub accepted_part : (k start size : ℕ) (bytes : List ℕ) → part start size ≡ transaction_part s p k → bytes ≡ part_bytes p (part start size)
        → bytes ≡ part_bytes p (transaction_part s p k)
    accepted_part k start size bytes g f = f ∙ ap (part_bytes p) g

  module _ (r : Refused) (e : a ≡ Err r) where
    refused_verdict : program_verdict s p ≡ refused (r.word / place_limit) (r.word % place_limit)
    refused_verdict = sym h ∙ ap verdict_of e

    pub refused_number : (k : ℕ) → k ≡ r.word / place_limit → k ≡ number_of (program_verdict s p)
    refused_number k g = rw refused_verdict g

    pub refused_place : (k place : ℕ) → k ≡ r.word / place_limit → place ≡ r.word % place_limit → located k place ≡ locate (program_verdict s p)
    unfolding locate
    refused_place k place g f = rw (g, f, refused_verdict)

    pub refused_body : (k n start size : ℕ) → k ≡ r.word / place_limit → start ≡ 0 → size ≡ 0 → body k start size ≡ body_of (program_verdict s p) (transaction_part s p n)
    unfolding body_of
    refused_body k n start size g e f = rw (g, e, f, transaction_none s p n refused_verdict, refused_verdict)

    pub refused_part : (n : ℕ) (bytes : List ℕ) → bytes ≡ part_bytes p (part 0 0) → bytes ≡ part_bytes p (transaction_part s p n)
    refused_part n bytes f = f ∙ ap (part_bytes p) (sym (transaction_none s p n refused_verdict))

pub ruleset answers = (accepted_verdict, accepted_number, accepted_place, accepted_body, accepted_part, refused_number, refused_place, refused_body, refused_part)
