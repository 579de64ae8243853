-- What the answer of a reader says, in the words of the model's readings.
use Rattle.std.specs.Prelude.{◌≡◌, ℕ, ◌/◌, ◌%◌, ◌<◌, Result, Ok, Err}
use Rattle.program.specs.Answer.{Reached, reached, stopped, place_limit}
use Rattle.program.specs.declared.refused.Refused.{Refused}

-- what an answer tells
abbrev pub tells : Result ℕ Refused → Reached
tells (Ok position) = reached position
tells (Err r) = stopped (r.word / place_limit) (r.word % place_limit)

-- an answer tells so; its position is one at which another reading may begin
unfoldable pub Answers : Result ℕ Refused → Reached → Type 0
Answers (Ok position) x = (reached position ≡ x) × (position < place_limit)
Answers (Err r) x = stopped (r.word / place_limit) (r.word % place_limit) ≡ x
