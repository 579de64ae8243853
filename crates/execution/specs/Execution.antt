-- What a run needs beside the caller's buffers, and what it has when it begins.
use Rattle.std.specs.Prelude.{ℕ, ◌*◌, ◌≤◌, ◌≡◌, List, length, take, replicate, Result}
use Rattle.model.specs.Number.{fine}
use Rattle.model.specs.Program.{variables}
use Rattle.model.specs.Flow.{program_verdict}
use Rattle.model.specs.Memory.{memory_of}
use Rattle.model.proofs.RunLaws.{Begins}
use Rattle.compile.specs.Emits.{Room}
use Rattle.compile.specs.Represents.{Blank, Starts}
use Rattle.model.specs.Machine.{answer_of}
use Rattle.model.specs.Calls.{run_answer}
use Rattle.tracked.specs.Index.{index_words, Tracked}
use Rattle.turn.specs.declared.fuel.Spent.{Spent}
use Rattle.machine.specs.Steps.{left_of, ending_of}

-- a run that is not refused, and the number of its variables
pub record Admitted (s p m : List ℕ) (vars fuel : ℕ) : Type 0 where
  pub begins : Begins s p m fuel
  pub vars_are : vars ≡ variables p

-- room for the code, which is blank, and for the words
pub record Rooms (p code words : List ℕ) : Type 0 where
  pub room : Room p code words
  pub blank : Blank code

-- an accepted policy and program with a memory that fits, and buffers that have room
pub record Loadable (s p m : List ℕ) (vars : ℕ) (code words working index : List ℕ) : Type 0 where
  pub verdict : program_verdict s p ≡ fine
  pub vars_are : vars ≡ variables p
  pub memory_fits : length m ≡ 4 * vars
  pub rooms : Rooms p code words
  pub same_length : length s ≡ length working
  pub index_blank : index ≡ replicate index_words 0

-- a copy of the policy with what is tracked of it, the program's code and the values of the memory
pub record Loaded (s p m : List ℕ) (vars : ℕ) (code words working sets index : List ℕ) (start : ℕ) : Type 0 where
  pub copied : working ≡ s
  pub tracked : Tracked working sets index
  pub starts : Starts s p code words start
  pub room : Room p code words
  pub values : memory_of (take vars words) ≡ m

-- how a run stopped, with a copy of the policy and with words as it left them: that gives the run's answer
pub record Executed (s p m : List ℕ) (vars fuel : ℕ) (stop : Result ℕ Spent) (working words : List ℕ) : Type 0 where
  pub answers : answer_of s m fuel (ending_of stop working (memory_of (take vars words))) ≡ run_answer s p m fuel
  pub within : left_of stop ≤ fuel
  pub same_length : length working ≡ length s
  pub words_many : vars ≤ length words

-- what is written at a run's end fits
pub record Finishable (s m working words : List ℕ) (vars fuel : ℕ) (stop : Result ℕ Spent) : Type 0 where
  pub same_length : length working ≡ length s
  pub memory_fits : length m ≡ 4 * vars
  pub words_many : vars ≤ length words
  pub within : left_of stop ≤ fuel
