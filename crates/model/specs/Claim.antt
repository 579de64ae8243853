-- Two runs side by side: what is open to a group of principals who pool what they see, and what demand 3 claims.
-- One observer is the group of that principal alone. The claim does not cover time, units, whether a run finishes, or
-- runs with an update that puts one of the group into a role's meaning.
use Rattle.std.specs.Prelude.{ℕ, ◌<◌, ◌≡◌, Bool, true, false, not, eqb}
use mathlib.Core.List.{List, Memᴰ}
use Rattle.std.specs.Int.Bits.{bit_and}
use Rattle.model.specs.Number.{accepted}
use Rattle.model.specs.Sets.{has}
use Rattle.model.specs.Policy.{Side, reading, trust, roles, viewers, trusters, watchers, SameFixed, Agree}
use Rattle.model.specs.Meaning.{meaning}
use Rattle.model.specs.Program.{variables}
use Rattle.model.specs.Flow.{label}
use Rattle.model.specs.Atoms.{atom_set}
use Rattle.model.specs.Value.{value_at}
use Rattle.model.specs.Run.{Update, run}
use Rattle.model.specs.Calls.{Ended, run_answer}

-- a set is open to a group when one of the group is in it
abbrev pub sees : ℕ → ℕ → Bool
sees group set = not (eqb (bit_and group set) 0)

-- a role's row is open when its viewers are (on the trust side, its trusters)
unfoldable pub open_row : Side → ℕ → List ℕ → ℕ → Bool
open_row side group s r = sees group (watchers side s r)

-- a variable is open, under the policy of the moment, when those who may read it (on the trust side, trust it) are
unfoldable pub open_variable : Side → ℕ → List ℕ → List ℕ → ℕ → Bool
open_variable side group p s x = sees group (atom_set s (label p side x))

-- an update gains when it puts one of the group into the meaning of a role in which they did not stand just before
pub record Gains (group : ℕ) (u : Update) : Type 0 where
  pub role : ℕ
  pub principal : ℕ
  pub in_group : has group principal ≡ true
  pub not_before : has (meaning u.before role) principal ≡ false
  pub now_in : has (meaning u.after role) principal ≡ true

abbrev pub NoGain : ℕ → List Update → Type 0
NoGain group us = (u : Update) → Memᴰ u us → Gains group u → ⊥

-- policies that agree on every role whose row is open
abbrev pub OpenRowsAgree : Side → ℕ → List ℕ → List ℕ → Type 0
OpenRowsAgree side group a b = (r : ℕ) → r < roles a → open_row side group a r ≡ true → Agree a b r

-- memories that agree on every variable that is open under a policy
abbrev pub OpenValuesAgree : Side → ℕ → List ℕ → List ℕ → List ℕ → List ℕ → Type 0
OpenValuesAgree side group p s m n = (x : ℕ) → x < variables p → open_variable side group p s x ≡ true → value_at m x ≡ value_at n x

-- what holds of the ends of two runs, policy s and memory m of the one, t and n of the other: open rows agree, the same
-- variables are open, and each of these has the same value
pub record SameOpenEnds (side : Side) (group : ℕ) (p s m t n : List ℕ) : Type 0 where
  pub rows : OpenRowsAgree side group s t
  pub variables_open : (x : ℕ) → x < variables p → open_variable side group p s x ≡ open_variable side group p t x
  pub values : OpenValuesAgree side group p s m n

-- demand 3 of two calls that run the program p, the one with policy a, memory m and fuel f, the other with b, n and g, and of
-- what they gave. On either side, for every group: where the policies have the same fixed part and agree on every open row,
-- the memories agree on every open variable, both calls returned 0 (so program and policies are accepted), and no update that
-- the run rules carry out in either gains, the ends are the same on all that is open
unfoldable pub Claim : (p a b m n : List ℕ) (f g : ℕ) (one two : Ended) → Type 0
Claim p a b m n f g one two =
    (side : Side) (group : ℕ)
    → SameFixed a b → OpenRowsAgree side group a b → OpenValuesAgree side group p a m n
    → one.number ≡ accepted → two.number ≡ accepted
    → NoGain group (run a p m f).updates → NoGain group (run b p n g).updates
    → SameOpenEnds side group p one.policy one.memory two.policy two.memory

-- demand 3 of the definition: what it gives for any two runs is as claimed
abbrev pub Demand3 : Type 0
Demand3 = (p a b m n : List ℕ) (f g : ℕ) → Claim p a b m n f g (run_answer a p m f) (run_answer b p n g)

-- The same for the observer of document 01, who is any one principal, in its own words.

-- open to the observer are the rows of the roles they view; on the trust side, of those that have them among the trusters
unfoldable pub row_open_to : Side → ℕ → List ℕ → ℕ → Bool
row_open_to reading observer s r = has (viewers s r) observer
row_open_to trust observer s r = has (trusters s r) observer

-- and, at each moment, the variables they may read under the policy of that moment; on the trust side, those they trust
unfoldable pub variable_open_to : Side → ℕ → List ℕ → List ℕ → ℕ → Bool
variable_open_to side observer p s x = has (atom_set s (label p side x)) observer

-- policies that agree on every role whose row is open to the observer
abbrev pub RowsAgreeTo : Side → ℕ → List ℕ → List ℕ → Type 0
RowsAgreeTo side observer a b = (r : ℕ) → r < roles a → row_open_to side observer a r ≡ true → Agree a b r

-- memories that agree on every variable that is open to them under a policy
abbrev pub ValuesAgreeTo : Side → ℕ → List ℕ → List ℕ → List ℕ → List ℕ → Type 0
ValuesAgreeTo side observer p s m n = (x : ℕ) → x < variables p → variable_open_to side observer p s x ≡ true → value_at m x ≡ value_at n x

-- an update puts a principal into a role's meaning when they stand in it after the last mutation and did not before the first
pub record PutsIn (principal : ℕ) (u : Update) (role : ℕ) : Type 0 where
  pub not_before : has (meaning u.before role) principal ≡ false
  pub now_in : has (meaning u.after role) principal ≡ true

abbrev pub NeverPutIn : ℕ → List Update → Type 0
NeverPutIn observer us = (u : Update) → Memᴰ u us → (r : ℕ) → PutsIn observer u r → ⊥

-- what holds of the ends of two runs: the policies agree on every role whose row is open to the observer, the same variables
-- are open to them, and each of these has the same value
pub record SameToObserver (side : Side) (observer : ℕ) (p s m t n : List ℕ) : Type 0 where
  pub rows : RowsAgreeTo side observer s t
  pub variables_open : (x : ℕ) → x < variables p → variable_open_to side observer p s x ≡ variable_open_to side observer p t x
  pub values : ValuesAgreeTo side observer p s m n

-- demand 3 of two calls, as above, for every observer: two finished runs of one program, at any fuels, none of whose updates
-- puts the observer into a role's meaning, from policies with the same fixed part that agree on every role whose row is open
-- to the observer and memories that agree on every variable open to them, end the same to the observer
unfoldable pub ObserverClaim : (p a b m n : List ℕ) (f g : ℕ) (one two : Ended) → Type 0
ObserverClaim p a b m n f g one two =
    (side : Side) (observer : ℕ)
    → SameFixed a b → RowsAgreeTo side observer a b → ValuesAgreeTo side observer p a m n
    → one.number ≡ accepted → two.number ≡ accepted
    → NeverPutIn observer (run a p m f).updates → NeverPutIn observer (run b p n g).updates
    → SameToObserver side observer p one.policy one.memory two.policy two.memory

-- and of the definition
abbrev pub Observer : Type 0
Observer = (p a b m n : List ℕ) (f g : ℕ) → ObserverClaim p a b m n f g (run_answer a p m f) (run_answer b p n g)
