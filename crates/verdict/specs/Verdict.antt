-- What the code's verdict says: nothing against the program, or document 01's number and the place that shows it.
use Rattle.std.specs.Prelude.{◌≡◌, ℕ, ◌/◌, ◌%◌, List, [], Result, Ok, Err, ⊤}
use Rattle.model.specs.Number.{Verdict as Judgement, fine, refused}
use Rattle.model.specs.Policy.{principals, roles}
use Rattle.model.specs.Syntax.{Stmt}
use Rattle.model.specs.Program.{got, read_program}
use Rattle.model.specs.Flow.{outside, flow}
use Rattle.program.specs.Answer.{place_limit}
use Rattle.program.specs.declared.refused.Refused.{Refused}

abbrev pub verdict_of : Result ⊤ Refused → Judgement
verdict_of (Ok _) = fine
verdict_of (Err r) = refused (r.word / place_limit) (r.word % place_limit)

-- r is the flow rules' verdict of the program that was read
unfoldable pub BodyVerdict : List ℕ → List ℕ → Result ⊤ Refused → Type 0
BodyVerdict s p r =
    (x : Stmt) (end : ℕ) → read_program p (principals s) (roles s) ≡ got x end → verdict_of r ≡ flow s p outside [] (λ side. []) x
