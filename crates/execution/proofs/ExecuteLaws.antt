-- A law for each return of execute.rt: what the loop gives, written into the caller's buffers, is what the run rules give.
use Prim.Native.Nat.{ℕ, ◌-◌, ◌*◌, ◌≤◌}
use native.Mathlib.Omega.{arith}
use mathlib.Core.Path.{◌≡◌, refl, ap, ◌∙◌}
use mathlib.Core.List.{List}
use lib.ListN.{length, take, replicate}
use Rattle.model.specs.Limits.{variable_limit}
use Rattle.model.specs.Policy.{Accepted}
use Rattle.model.specs.Memory.{memory_of}
use Rattle.model.specs.Calls.{ended, run_answer}
use Rattle.model.specs.Machine.{answer_of}
use Rattle.model.proofs.FlowParts.{accepted_program}
use Rattle.compile.specs.Represents.{Compiles}
use Rattle.tracked.specs.Index.{index_words, Tracked}
use Rattle.std.proofs.Common.{Result, Ok, Err}
use Rattle.turn.specs.declared.fuel.Spent.{Spent}
use Rattle.turn.specs.Memory.{Kept}
use Rattle.machine.specs.Steps.{Ready, ending_of, StopsAs, left_of}
use Rattle.execution.specs.Execution.{Admitted, Loadable, Loaded, Executed, Finishable}
use Rattle.machine.proofs.Running.{represents_kept}

-- loading
module _ (s p m : List ℕ) (vars : ℕ) (code words working index : List ℕ) (h : Loadable s p m vars code words working index) where
  pub load_copy : length s ≡ length working
  load_copy = h.same_length

  pub load_accepted : (t : List ℕ) → t ≡ s → Accepted t
  load_accepted t e = rw e (accepted_program s p h.verdict).policy

  pub load_index : index ≡ replicate index_words 0
  load_index = h.index_blank

  pub load_memory : length m ≡ 4 * vars
  load_memory = h.memory_fits

  pub load_vars : (words₁ : List ℕ) → length words₁ ≡ length words → vars ≤ length words₁
  load_vars words₁ e =
      let l = h.rooms.room.words_many in
      let k : vars ≤ variable_limit = rw h.vars_are (accepted_program s p h.verdict).few in
      omega arith

  pub load_done : (code₁ words₁ words₂ working₁ sets₁ index₁ : List ℕ) (r : ℕ) → working₁ ≡ s → Tracked working₁ sets₁ index₁ → Compiles p code words code₁ words₁ r
      → length code₁ ≡ length code → length words₁ ≡ length words → memory_of (take vars words₂) ≡ m → Kept vars words₁ words₂
      → Loaded s p m vars code₁ words₂ working₁ sets₁ index₁ r
  unfolding Compiles
  load_done code₁ words₁ words₂ working₁ sets₁ index₁ r same tracked made long many values kept =
      let k : vars ≤ variable_limit = rw h.vars_are (accepted_program s p h.verdict).few in
      let u = made s h.verdict h.rooms.room h.rooms.blank in
      let a = h.rooms.room in
      record {
        copied = same;
        tracked = tracked;
        starts = record {
          start_is = u.start_is;
          start_there = u.start_there;
          represents = represents_kept s p code₁ words₁ words₂ (λ i l. kept.same i (omega arith)) u.represents;
        };
        room = record { short = a.short; nodes_many = rw long a.nodes_many; words_many = rw (kept.same_length, many) a.words_many };
        values = values;
      }

pub ruleset loading = (load_copy, load_accepted, load_index, load_memory, load_vars, load_done)

-- finishing
module _ (s m t w : List ℕ) (vars fuel : ℕ) (stop : Result ℕ Spent) where
  module _ (h : Finishable s m t w vars fuel stop) where
    pub finish_left : (left : ℕ) → stop ≡ Ok left → left ≤ fuel
    finish_left left e = rw e at h.within

    pub finish_policy : length t ≡ length s
    finish_policy = h.same_length

    pub finish_memory : length m ≡ 4 * vars
    finish_memory = h.memory_fits

    pub finish_words : vars ≤ length w
    finish_words = h.words_many

  pub finish_done : (left : ℕ) (s₁ m₁ : List ℕ) → stop ≡ Ok left → s₁ ≡ t → m₁ ≡ memory_of (take vars w) → ended 0 (fuel - left) s₁ m₁ ≡ answer_of s m fuel (ending_of stop t (memory_of (take vars w)))
  unfolding answer_of
  finish_done left s₁ m₁ e f g = rw (e, f, g) refl

  pub finish_spent : (e : Spent) → stop ≡ Err e → ended 22 fuel s m ≡ answer_of s m fuel (ending_of stop t (memory_of (take vars w)))
  unfolding answer_of
  finish_spent spent e = rw e refl

pub ruleset finishing = (finish_left, finish_policy, finish_memory, finish_words, finish_done, finish_spent)

-- the run in given buffers
module _ (s p m : List ℕ) (vars fuel : ℕ) (code words working sets index : List ℕ) (start : ℕ) (h : Admitted s p m vars fuel) (l : Loaded s p m vars code words working sets index start) where
  pub run_ready : Ready working p code words sets index vars start fuel
  run_ready =
      rw l.copied
      (record {
        begins = rw l.values h.begins;
        represents = l.starts.represents;
        starts = l.starts.start_is;
        tracked = rw (← l.copied) l.tracked;
        vars_are = h.vars_are;
        code_many = l.room.nodes_many;
        words_many = l.room.words_many;
      })

  pub run_executed : (stop : Result ℕ Spent) (t words₁ : List ℕ) → StopsAs working p words vars fuel stop t words₁ → left_of stop ≤ fuel → length t ≡ length working → length words₁ ≡ length words
      → Executed s p m vars fuel stop t words₁
  unfolding StopsAs
  run_executed stop t words₁ a b c d =
      let k = l.room.words_many in
      let f : vars ≤ variable_limit = rw h.vars_are h.begins.program.few in
      record { answers = rw (l.copied, l.values) at a; within = b; same_length = c ∙ ap length l.copied; words_many = omega arith }

pub ruleset executing = (run_ready, run_executed)

module _ (s p m : List ℕ) (vars fuel : ℕ) (stop : Result ℕ Spent) (working words : List ℕ) (e : Executed s p m vars fuel stop working words) where
  pub run_finishes : Admitted s p m vars fuel → Finishable s m working words vars fuel stop
  run_finishes h = record { same_length = e.same_length; memory_fits = rw h.vars_are h.begins.memory_fits; words_many = e.words_many; within = e.within }

  pub run_answers : (number units : ℕ) (s₁ m₁ : List ℕ) → ended number units s₁ m₁ ≡ answer_of s m fuel (ending_of stop working (memory_of (take vars words))) → ended number units s₁ m₁ ≡ run_answer s p m fuel
  run_answers number units s₁ m₁ b = b ∙ e.answers

pub ruleset running = (run_finishes, run_answers)
