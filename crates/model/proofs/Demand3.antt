-- Demand 3: a run that returns 0 has run the body of an accepted program to its end; two such ran one body from alike states, and in step they end alike, as around a whole program there is no transaction that could be hidden.
use Prim.Native.Nat.{ℕ, ◌^◌, ◌<◌}
use native.Mathlib.Omega.{arith}
use mathlib.Core.Path.{◌≡◌, refl, sym, ◌∙◌}
use mathlib.Core.Logic.{⊎_elim}
use mathlib.Core.List.{List, []}
use mathlib.Core.Bool.{true}
use Rattle.model.specs.Number.{accepted}
use Rattle.model.specs.Policy.{Side, reading, trust, principals, roles, viewers, trusters, watchers, SameFixed}
use Rattle.model.specs.Syntax.{of}
use Rattle.model.specs.Program.{got, version, variables, read_program}
use Rattle.model.specs.Order.{fixed_set}
use Rattle.model.specs.Flow.{label}
use Rattle.model.specs.Atoms.{atom_set}
use Rattle.model.specs.Value.{value_at}
use Rattle.model.specs.Run.{Update, Outcome}
use Rattle.model.specs.Calls.{Ended, end_of, run_answer}
use Rattle.model.specs.Claim.{open_row, open_variable, NoGain, OpenRowsAgree, OpenValuesAgree, SameOpenEnds, Claim, Demand3, row_open_to, variable_open_to, NeverPutIn, ObserverClaim, Observer}
use Rattle.model.proofs.FlowParts.{AcceptedProgram}
use Rattle.model.proofs.Openness.{Setting, is_open, Near, good_base, open_fixed, open_same}
use Rattle.model.proofs.InStep.{in_step}
use Rattle.model.proofs.RunLaws.{Begins, Ran, refuses, finishes, spends, ran}
use Rattle.model.proofs.Runs.{ends, Runs, execute_runs}
use Rattle.model.proofs.Sees.{sees_one}
use Rattle.model.proofs.Sets.{power_is}
use Rattle.model.proofs.States.{label_of, Alike}

-- a run that returned 0 ran the body of an accepted program to its end
record Finished (s p m : List ℕ) (f : ℕ) (r : Outcome) : Type 0 where
  begins : Begins s p m f
  body_ran : Runs (version p) [] begins.program.body s m (ends r.policy r.memory) r.updates

finished : {s p m : List ℕ} {f : ℕ} {r : Outcome} → Ran s p m f r → r.number ≡ accepted → Finished s p m f r
finished (refuses k some few) h = absurd (omega arith)
finished {s} {p} {m} {f} (finishes b e) h = record { begins = b; body_ran = rw e at (execute_runs (version p) b.program.body [] f s m) }
finished (spends b e) h = absurd (omega arith)

-- near policies, and memories that agree on what is open, make ends as claimed
claimed : {S : Setting} {s m t n : List ℕ} → Near S s t
    → ((x : ℕ) → x < variables S.program → is_open S s (label_of S x) ≡ true → value_at m x ≡ value_at n x)
    → SameOpenEnds S.side S.group S.program s m t n
unfolding is_open open_row open_variable atom_set fixed_set
claimed {S} k f = record {
  rows = λ r l o. k.rows r (rw k.good1.same_base.same_roles l) (sym (open_fixed k.good1 (of S.side r)) ∙ o);
  variables_open = λ x l. open_same k (label_of S x);
  values = f;
}

-- the setting of a first run
setting : Side → ℕ → {p a : List ℕ} → AcceptedProgram a p → Setting
setting side group {p} {a} h = record { side = side; group = group; program = p; base = a; base_accepted = h.policy; few = h.few }

-- two finished runs
both_finished : {side : Side} {group : ℕ} {p a b m n : List ℕ} {i j : ℕ} {one two : Outcome}
    → SameFixed a b → OpenRowsAgree side group a b → OpenValuesAgree side group p a m n
    → NoGain group one.updates → Finished a p m i one → Finished b p n j two
    → SameOpenEnds side group p one.policy one.memory two.policy two.memory
unfolding setting is_open open_row open_variable atom_set fixed_set
both_finished {side} {group} {p} {a} {b} {m} {n} {one} {two} same rows values f x y =
    let S = setting side group x.begins.program in
    let near : Near S a b = record { good1 = good_base S; good2 = record { accepted = y.begins.program.policy; same_base = same }; rows = rows } in
    let start : Alike S a m b n = record { near = near; room1 = x.begins.memory_fits; room2 = y.begins.memory_fits; values = values } in
    let read : read_program p (principals b) (roles b) ≡ got x.begins.program.body x.begins.program.end = rw (same.same_principals, same.same_roles) at x.begins.program.is_read in
    let body : y.begins.program.body ≡ x.begins.program.body = cc in
    let run-two : Runs (version p) [] x.begins.program.body b n (ends two.policy two.memory) two.updates = rw body at y.body_ran in
    ⊎_elim absurd (λ k. claimed k.near k.values) (in_step S x.begins.program.placed x.body_ran run-two refl refl start f)

pub demand_3 : Demand3
unfolding Claim end_of
demand_3 p a b m n f g side group same rows values ra rb na nb = both_finished same rows values na (finished (ran a p m f) ra) (finished (ran b p n g) rb)

-- demand 3 of calls: two that give what the definition does are as claimed
pub two_calls : (p a b m n : List ℕ) (f g : ℕ) (one two : Ended) → one ≡ run_answer a p m f → two ≡ run_answer b p n g → Claim p a b m n f g one two
two_calls p a b m n f g one two e k = rw (e, k) (demand_3 p a b m n f g)

-- one observer is the group of that principal: what is open to them, and what puts them into a meaning, is the group's
row_open : (side : Side) (o : ℕ) (s : List ℕ) (r : ℕ) → open_row side (2 ^ o) s r ≡ row_open_to side o s r
unfolding open_row row_open_to watchers
row_open reading o s r = sees_one o (viewers s r)
row_open trust o s r = sees_one o (trusters s r)

variable_open : (side : Side) (o : ℕ) (p s : List ℕ) (x : ℕ) → open_variable side (2 ^ o) p s x ≡ variable_open_to side o p s x
unfolding open_variable variable_open_to
variable_open side o p s x = sees_one o (atom_set s (label p side x))

no_gain : (o : ℕ) (us : List Update) → NeverPutIn o us → NoGain (2 ^ o) us
no_gain o us h u i k =
    let e : k.principal ≡ o = power_is o k.principal k.in_group in
    h u i k.role record { not_before = rw e at k.not_before; now_in = rw e at k.now_in }

-- what is claimed of two calls for every group holds for every observer
pub claim_observer : (p a b m n : List ℕ) (f g : ℕ) (one two : Ended) → Claim p a b m n f g one two → ObserverClaim p a b m n f g one two
unfolding Claim ObserverClaim
claim_observer p a b m n f g one two claim side o same rows values ra rb na nb =
    let k = claim side (2 ^ o) same
    (λ r l h. rows r l (sym (row_open side o a r) ∙ h))
    (λ x l h. values x l (sym (variable_open side o p a x) ∙ h))
    ra rb (no_gain o _ na) (no_gain o _ nb) in
    record {
      rows = λ r l h. k.rows r l (row_open side o _ r ∙ h);
      variables_open = λ x l. sym (variable_open side o p _ x) ∙ k.variables_open x l ∙ variable_open side o p _ x;
      values = λ x l h. k.values x l (variable_open side o p _ x ∙ h);
    }

pub observer : Observer
observer p a b m n f g = claim_observer p a b m n f g _ _ (demand_3 p a b m n f g)
