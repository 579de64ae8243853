-- What the calls about a program give, each as one value.
use Rattle.std.specs.Prelude.{ℕ, List, take, drop}
use Rattle.model.specs.Number.{Verdict, number_of, place_of}
use Rattle.model.specs.Flow.{Part, part, program_verdict, transaction_part}
use Rattle.model.specs.Run.{Outcome, run}

-- asking where a number shows: the number and the place
pub data Located : Type 0 where
  located : (number place : ℕ) → Located

unfoldable pub locate : Verdict → Located
locate v = located (number_of v) (place_of v)

abbrev pub place_answer : List ℕ → List ℕ → Located
place_answer s p = locate (program_verdict s p)

-- asking for a transaction's body: the number, and where the body starts and how long it is
pub data Body : Type 0 where
  body : (number start size : ℕ) → Body

unfoldable pub body_of : Verdict → Part → Body
body_of v (part start size) = body (number_of v) start size

abbrev pub transaction_answer : List ℕ → List ℕ → ℕ → Body
transaction_answer s p k = body_of (program_verdict s p) (transaction_part s p k)

-- the bytes of a part of the program
unfoldable pub part_bytes : List ℕ → Part → List ℕ
part_bytes p (part start size) = take size (drop start p)

-- running: the number, the units, and the bytes of policy and memory at the end
pub record Ended : Type 0 where
  pub number : ℕ
  pub units : ℕ
  pub policy : List ℕ
  pub memory : List ℕ

-- the same in a row, as a contract writes it
abbrev pub ended : (number units : ℕ) → (policy memory : List ℕ) → Ended
ended k u s m = record { number = k; units = u; policy = s; memory = m }

unfoldable pub end_of : Outcome → Ended
end_of o = ended o.number o.units o.policy o.memory

abbrev pub run_answer : List ℕ → List ℕ → List ℕ → ℕ → Ended
run_answer s p m fuel = end_of (run s p m fuel)
