-- A run is refused, finishes or is spent, and only where it finishes is a byte other than it was: so what holds of the three ways holds of every run.
use Prim.Native.Nat.{ℕ, ◌-◌, ◌*◌, ◌≤◌}
use native.Mathlib.Omega.{arith}
use mathlib.Core.Path.{◌≡◌, refl}
use mathlib.Core.List.{List, []}
use mathlib.Core.Bool.{Bool, true, false, ◌&&◌}
use lib.Dec.{eqb, leb}
use lib.ListN.{length}
use borrow.Author.Tests.{eqb-true, eq-eqb, leb-true, le-leb}
use Rattle.model.specs.Limits.{fuel_limit}
use Rattle.model.specs.Number.{accepted, memory_length, fuel_range, fuel_spent, Verdict, fine, refused}
use Rattle.model.specs.Policy.{principals, roles}
use Rattle.model.specs.Program.{version, variables, read_program}
use Rattle.model.specs.Flow.{program_verdict}
use Rattle.model.specs.Run.{Update, Result, done, rolled, spent, execute, Outcome, refusal, finish, run_body, run}
use Rattle.model.proofs.FlowParts.{AcceptedProgram, accepted_program}
use Rattle.model.proofs.Refusals.{refused_number}
use Rattle.model.proofs.RunRestart.{body_not_rolled}
use Rattle.model.proofs.Truth.{both}

-- what a run that is not refused begins with
pub record Begins (s p m : List ℕ) (f : ℕ) : Type 0 where
  pub verdict : program_verdict s p ≡ fine
  pub program : AcceptedProgram s p
  pub memory_fits : length m ≡ 4 * variables p
  pub fuel_some : 1 ≤ f
  pub fuel_limited : f ≤ fuel_limit

-- the result of its body
abbrev pub result : {s p m : List ℕ} {f : ℕ} → Begins s p m f → Result
result {s} {p} {m} {f} b = execute (version p) b.program.body [] f s m

-- how a run goes: it is refused, it finishes, or its fuel is spent
pub data Ran (s p m : List ℕ) (f : ℕ) : Outcome → Type 0 where
  refuses : (k : ℕ) → 1 ≤ k → k ≤ fuel_range → Ran s p m f (refusal k s m)
  finishes : (b : Begins s p m f) {s₁ m₁ : List ℕ} {us : List Update} {left : ℕ} → result b ≡ done s₁ m₁ us left
      → Ran s p m f (record { number = accepted; units = f - left; policy = s₁; memory = m₁; updates = us })
  spends : (b : Begins s p m f) {us : List Update} → result b ≡ spent us → Ran s p m f (record { number = fuel_spent; units = f; policy = s; memory = m; updates = us })

module _ (s p m : List ℕ) (f : ℕ) where
  -- the run itself, once it is known to begin
  pub run_is : (b : Begins s p m f) → run s p m f ≡ finish s m f (result b)
  unfolding run run_body
  run_is b = rw (b.verdict, eq-eqb _ _ b.memory_fits, le-leb _ _ b.fuel_some, le-leb _ _ b.fuel_limited, b.program.is_read, run)

  ran_finish : (b : Begins s p m f) → Ran s p m f (finish s m f (result b))
  unfolding finish
  ran_finish b = go (result b) refl
    where
      go : (x : Result) → result b ≡ x → Ran s p m f (finish s m f x)
      go (done s₁ m₁ us left) e = finishes b e
      go (rolled s₁ us left) e = absurd (body_not_rolled (version p) b.program.body f s m s₁ us left e)
      go (spent us) e = spends b e

  pub ran : Ran s p m f (run s p m f)
  unfolding run run_body
  ran = verdict (program_verdict s p) refl
    where
      -- after the verdict, after the memory's length, after the fuel
      after_length : Bool → Outcome
      after_length b = elim b [ true ↦ run_body (version p) (read_program p (principals s) (roles s)) s m f | false ↦ refusal fuel_range s m ]

      after_verdict : Bool → Outcome
      after_verdict b = elim b [ true ↦ after_length (leb 1 f && leb f fuel_limit) | false ↦ refusal memory_length s m ]

      fuel : program_verdict s p ≡ fine → length m ≡ 4 * variables p → (b : Bool) → (leb 1 f && leb f fuel_limit) ≡ b → Ran s p m f (after_length b)
      fuel v l true e =
          let (some, limited) = both (leb 1 f) (leb f fuel_limit) e in
          let program = accepted_program s p v in
          rw program.is_read (ran_finish (record { verdict = v; program = program; memory_fits = l; fuel_some = leb-true _ _ some; fuel_limited = leb-true _ _ limited }))
      fuel v l false e = refuses fuel_range (omega arith) (omega arith)

      memory : program_verdict s p ≡ fine → (b : Bool) → eqb (length m) (4 * variables p) ≡ b → Ran s p m f (after_verdict b)
      memory v true e = fuel v (eqb-true _ _ e) (leb 1 f && leb f fuel_limit) refl
      memory v false e = refuses memory_length (omega arith) (omega arith)

      verdict : (v : Verdict) → program_verdict s p ≡ v → Ran s p m f (elim v [ fine ↦ after_verdict (eqb (length m) (4 * variables p)) | refused k place ↦ refusal k s m ])
      verdict fine e = memory e (eqb (length m) (4 * variables p)) refl
      verdict (refused k place) e = let n = refused_number s p e in refuses k n.0 (omega arith)

module _ (s p m : List ℕ) (f : ℕ) where
  -- a run whose number is 0 began
  pub finished_begins : (run s p m f).number ≡ accepted → Begins s p m f
  finished_begins = go (ran s p m f)
    where
      go : {o : Outcome} → Ran s p m f o → o.number ≡ accepted → Begins s p m f
      go (refuses k some few) h = absurd (omega arith)
      go (finishes b e) h = b
      go (spends b e) h = b

  -- so did one whose number is 22
  pub spent_begins : (run s p m f).number ≡ fuel_spent → Begins s p m f
  spent_begins = go (ran s p m f)
    where
      go : {o : Outcome} → Ran s p m f o → o.number ≡ fuel_spent → Begins s p m f
      go (refuses k some few) h = absurd (omega arith)
      go (finishes b e) h = b
      go (spends b e) h = b

  -- a run whose number is not 0 leaves policy and memory as they were
  pub run_refused : ((run s p m f).number ≡ accepted → ⊥) → ((run s p m f).policy ≡ s) × ((run s p m f).memory ≡ m)
  run_refused = go (ran s p m f)
    where
      go : {o : Outcome} → Ran s p m f o → (o.number ≡ accepted → ⊥) → (o.policy ≡ s) × (o.memory ≡ m)
      go (refuses k some few) h = (refl, refl)
      go (finishes b e) h = absurd (h refl)
      go (spends b e) h = (refl, refl)

  -- units never exceed the fuel
  pub units_within : (run s p m f).units ≤ f
  units_within = go (ran s p m f)
    where
      go : {o : Outcome} → Ran s p m f o → o.units ≤ f
      go (refuses k some few) = omega arith
      go (finishes b e) = omega arith
      go (spends b e) = omega arith

  -- with 22 they equal the fuel
  pub spent_units : (run s p m f).number ≡ fuel_spent → (run s p m f).units ≡ f
  spent_units = go (ran s p m f)
    where
      go : {o : Outcome} → Ran s p m f o → o.number ≡ fuel_spent → o.units ≡ f
      go (refuses k some few) h = absurd (omega arith)
      go (finishes b e) h = absurd (omega arith)
      go (spends b e) h = refl

  -- with any other refusal they are 0
  pub refused_units : ((run s p m f).number ≡ accepted → ⊥) → ((run s p m f).number ≡ fuel_spent → ⊥) → (run s p m f).units ≡ 0
  refused_units = go (ran s p m f)
    where
      go : {o : Outcome} → Ran s p m f o → (o.number ≡ accepted → ⊥) → (o.number ≡ fuel_spent → ⊥) → o.units ≡ 0
      go (refuses k some few) h i = refl
      go (finishes b e) h i = absurd (h refl)
      go (spends b e) h i = absurd (i refl)
