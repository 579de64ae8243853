-- What asking for a meaning gives.
use Rattle.std.specs.Prelude.{ℕ, Result, Ok, Err}
use Rattle.model.specs.Number.{accepted}
use Rattle.model.specs.Meaning.{Answer, answer}
use Rattle.shared.specs.declared.refusal.Refusal.{Refusal}
use Rattle.shared.specs.Refusals.{refusal_number}

-- the number 0 with the meaning's bits, or a refusal's number with none
abbrev pub meaning_answer : Result ℕ Refusal → Answer
meaning_answer (Ok bits) = answer accepted bits
meaning_answer (Err refusal) = answer (refusal_number refusal) 0
