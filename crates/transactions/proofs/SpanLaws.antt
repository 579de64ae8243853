-- A law for each return of span.rt: what the search after the labels finds is the body that the model names, inside the program.
use mathlib.Core.Path.{◌≡◌, sym, ◌∙◌}
use Prim.Native.Nat.{ℕ, ◌+◌, ◌-◌, ◌≤◌}
use mathlib.Core.List.{List}
use native.Mathlib.Omega.{arith}
use lib.ListN.{length, take, drop}
use Rattle.model.specs.Limits.{statement_depth}
use Rattle.model.specs.Number.{fine}
use Rattle.model.specs.Policy.{principals, roles}
use Rattle.model.specs.Program.{variables, body_at}
use Rattle.model.specs.Flow.{part, bodies, program_verdict, transaction_part}
use Rattle.model.specs.Calls.{part_bytes}
use Rattle.model.proofs.Accepted.{accepted_facts}
use Rattle.model.proofs.FlowParts.{accepted_program}
use Rattle.model.proofs.Bodies.{PartWithin, each_at, transaction_is}
use Rattle.model.proofs.Reading.{program_parts}
use Rattle.std.proofs.Common.{Break, Continue}
use Rattle.transactions.specs.declared.span.Span.{Span}
use Rattle.transactions.specs.declared.bodies.Passed.{Passed}
use Rattle.transactions.specs.Bodies.{Found, found_of, FoundAt}
use Rattle.transactions.proofs.BodyLaws.{found_part, found_empty}

module _ (s p : List ℕ) (k : ℕ) (h : program_verdict s p ≡ fine) where
  -- the body that the model names is inside the program
  part_inside : PartWithin (length p) (transaction_part s p k)
  part_inside =
      let a = accepted_program s p h in
      let u = program_parts p (principals s) (roles s) a.is_read in
      rw (transaction_is s p k h a.is_read, ← u.ends) (each_at {Q = PartWithin a.end} (bodies a.body) k (part 0 0) u.bodies_within (omega arith))

  module _ (vars start : ℕ) (f : Found) (e : vars ≡ variables p) (w : start ≡ body_at vars) (g : FoundAt p statement_depth start k f) where
    -- what the search gives, of the bodies of the statement that was read
    found_here : let a = accepted_program s p h in f ≡ found_of (bodies a.body) k a.end
    unfolding FoundAt
    found_here =
        let a = accepted_program s p h in
        let u = program_parts p (principals s) (roles s) a.is_read in
        let few = (accepted_facts s a.policy).roles_fit in
        g (principals s) (roles s) (variables p) (omega arith, omega arith) a.body a.end (rw (w, e) u.body_read)

    pub span_is : (b : Span) → f ≡ Break b → part b.start b.size ≡ transaction_part s p k
    span_is b t =
        let a = accepted_program s p h in
        found_part a.end (bodies a.body) k b (sym t ∙ found_here) ∙ sym (transaction_is s p k h a.is_read)

    pub span_none : (o : Passed) → f ≡ Continue o → part 0 0 ≡ transaction_part s p k
    span_none o t =
        let a = accepted_program s p h in
        found_empty a.end (bodies a.body) k o (sym t ∙ found_here) ∙ sym (transaction_is s p k h a.is_read)

    pub span_inside : (b : Span) → f ≡ Break b → b.start + b.size ≤ length p
    span_inside b t = rw (← span_is b t) at part_inside

pub ruleset spans = (span_is, span_none, span_inside)

pub part_is : (p : List ℕ) (start size : ℕ) → take (start + size - start) (drop start p) ≡ part_bytes p (part start size)
unfolding part_bytes
part_is p start size = let k : start + size - start ≡ size = omega arith in rw k

pub ruleset parts = (part_is)
