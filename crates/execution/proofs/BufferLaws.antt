-- The buffers have room, and are blank where they must be.
use Prim.Native.Nat.{ℕ, ◌+◌, ◌*◌, ◌<◌, ◌≤◌}
use native.Mathlib.Omega.{arith}
use mathlib.Core.Path.{◌≡◌, refl, sym}
use mathlib.Core.List.{List}
use lib.ListN.{length, get_or, take, replicate, length-replicate, get_or-replicate, get_or-eq_default}
use lib.Seq.{length-take-le}
use native.Mathlib.Decide.{dec_lt}
use Rattle.model.specs.Policy.{row_bytes, row_at, policy_bytes}
use Rattle.model.proofs.Accepted.{accepted_facts}
use Rattle.compile.specs.Represents.{Blank}
use Rattle.tracked.specs.Index.{index_words}
use Rattle.execution.specs.Execution.{Admitted, Rooms, Loadable}
use Rattle.machine.proofs.Running.{program_short}

-- a buffer as it is made
abbrev zeros : ℕ → List ℕ
zeros n = replicate n 0

zeros_length : (n : ℕ) → length (zeros n) ≡ n
zeros_length n = length-replicate n 0

blank : (n : ℕ) → Blank (zeros n)
blank n i = go (dec_lt i n)
  where
    go : Dec (i < n) → get_or (zeros n) i 0 ≡ 0
    go (yes l) = get_or-replicate n i 0 0 l
    go (no k) = let e = zeros_length n in get_or-eq_default (zeros n) 0 (omega arith)

-- a copy of the policy, and the sets
module _ (s p m : List ℕ) (vars fuel : ℕ) (h : Admitted s p m vars fuel) where
  policy_short : length s ≤ 1415
  unfolding policy_bytes row_bytes row_at
  policy_short = let f = accepted_facts s h.begins.program.policy in let l = f.long in let k = f.roles_fit in omega arith

  pub copy_large : (length s ≤ 1415) × (1415 ≤ 1415)
  copy_large = let l = policy_short in (l, omega arith)

  pub copy_count : (w : List ℕ) → length s ≤ length w → length s ≡ length (take (length s) w)
  copy_count w l = sym (length-take-le (length s) w l)

  pub tracked_loadable : (code words w : List ℕ) → Rooms p code words → length s ≤ length w → Loadable s p m vars code words (take (length s) w) (zeros index_words)
  tracked_loadable code words w r l =
      record { verdict = h.begins.verdict; vars_are = h.vars_are; memory_fits = rw h.vars_are h.begins.memory_fits; rooms = r; same_length = copy_count w l; index_blank = refl }

-- room for the code and the words
module _ (s p m : List ℕ) (vars fuel : ℕ) (h : Admitted s p m vars fuel) where
  pub rooms_for : (nodes many : ℕ) → 4 * length p ≤ nodes → 64 + length p ≤ many → Rooms p (zeros nodes) (zeros many)
  rooms_for nodes many l k =
      let x = zeros_length nodes in
      let y = zeros_length many in
      let z = program_short s p h.begins.program.is_read in
      record { room = record { short = z; nodes_many = omega arith; words_many = omega arith }; blank = blank nodes }

  pub large_nodes : (4 * length p ≤ 16384) × (16384 ≤ 16384)
  large_nodes = let z = program_short s p h.begins.program.is_read in (omega arith, omega arith)

  pub large_words : (64 + length p ≤ 4160) × (4160 ≤ 4160)
  large_words = let z = program_short s p h.begins.program.is_read in (omega arith, omega arith)
