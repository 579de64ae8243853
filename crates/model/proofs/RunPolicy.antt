-- Whatever a statement does, its fuel only falls and policies move only by its updates: so a relation that holds along each of them, and is reflexive and transitive, holds between a run's start and its end.
use Prim.Native.Nat.{ℕ, zero, suc, ◌+◌, ◌≤◌}
use native.Mathlib.Omega.{arith}
use native.Mathlib.Nat.{le_refl, le_step, le_trans}
use mathlib.Core.Path.{◌≡◌, refl, sym, ap, ◌∙◌}
use mathlib.Core.List.Memᴰ
use mathlib.Core.List.{List, [], ◌∷◌}
use mathlib.Core.Bool.{Bool, true, false, true≢false}
use lib.Bits.{bit_or}
use lib.ListN.{length}
use Rattle.model.specs.Number.{accepted}
use Rattle.model.specs.Sets.{has, with}
use Rattle.model.specs.Policy.{principals, roles, Side, Accepted, SameFixed, Agree}
use Rattle.model.specs.Mutation.{mutate, Mutation}
use Rattle.model.specs.Syntax.{Atom, Query, Expr, Stmt, skip, assign, empty, block, if, while, query, update, transaction}
use Rattle.model.specs.Program.{got, version, read_program}
use Rattle.model.specs.Flow.{roles_of, assigned, mutated, Around, outside, inside, under_expr, under_query}
use Rattle.model.specs.Atoms.{holds}
use Rattle.model.specs.Value.{evaluate, truth, set_value}
use Rattle.model.specs.Run.{Update, Result, done, rolled, spent, after, charge, and_then, mutate_all, broken, loop, attempt, execute, Outcome, finish, run}
use Rattle.model.proofs.Bytes.{length_put}
use Rattle.model.specs.Fits.{Each}
use Rattle.model.proofs.Fits.{each_cons}
use Rattle.model.proofs.Fixed.{fixed_refl, fixed_trans, agree_refl, agree_trans}
use Rattle.model.proofs.FlowParts.{Mutates, mutates_accepted, mutates_fixed, Placed, parts}
use Rattle.model.proofs.Mutation.{length_mutate, mutate_fixed, mutate_other}
use Rattle.model.proofs.RunLaws.{Begins, result, run_is, Ran, refuses, finishes, spends, ran, finished_begins}
use Rattle.model.proofs.Sets.{has_or_l, has_or_r, has_with, has_with_same}
use Rattle.model.proofs.Truth.{backwards}

length_set_value : (m : List ℕ) (x v : ℕ) → length (set_value m x v) ≡ length m
unfolding set_value
length_set_value m x v = length_put m _ 4 v

-- reflexive and transitive
pub record Steps (R : List ℕ → List ℕ → Type 0) : Type 0 where
  pub stay : (s : List ℕ) → R s s
  pub chain : {s t u : List ℕ} → R s t → R t u → R s u

module _ (R : List ℕ → List ℕ → Type 0) where
  -- a statement each of whose updates moves the policy along R
  abbrev pub Respects : Stmt → Type 0
  Respects skip = Unit {0}
  Respects (assign at x e) = Unit {0}
  Respects empty = Unit {0}
  Respects (block a b) = Respects a × Respects b
  Respects (if e a b) = Respects a × Respects b
  Respects (while e a) = Respects a
  Respects (query at q a b) = Respects a × Respects b
  Respects (update at ms) = (s : List ℕ) → R s (mutate_all s ms)
  Respects (transaction at start end qs a) = Respects a

  -- where a result leads from fuel, policy and memory: no fuel is added, the policy goes along R, the memory stays as long
  pub data Goes (f : ℕ) (s m : List ℕ) : Result → Type 0 where
    to : {s₁ m₁ : List ℕ} {us : List Update} {left : ℕ} → left ≤ f → R s s₁ → length m₁ ≡ length m → Goes f s m (done s₁ m₁ us left)
    back : {s₁ : List ℕ} {us : List Update} {left : ℕ} → left ≤ f → R s s₁ → Goes f s m (rolled s₁ us left)
    nowhere : {us : List Update} → Goes f s m (spent us)

  -- every run of a body leads there
  abbrev pub BodyGoes : (ℕ → List ℕ → List ℕ → Result) → Type 0
  BodyGoes body = (f : ℕ) (s m : List ℕ) → Goes f s m (body f s m)

module _ {R : List ℕ → List ℕ → Type 0} (steps : Steps R) where
  after_goes : {f g : ℕ} {s t m n : List ℕ} (us : List Update) {x : Result} → g ≤ f → R s t → length n ≡ length m → Goes R g t n x → Goes R f s m (after us x)
  unfolding after
  after_goes us h r l (to k q e) = to (le_trans k h) (steps.chain r q) (e ∙ l)
  after_goes us h r l (back k q) = back (le_trans k h) (steps.chain r q)
  after_goes us h r l nowhere = nowhere

  then_goes : {f : ℕ} {s m : List ℕ} {x : Result} {rest : List ℕ → List ℕ → ℕ → Result} → Goes R f s m x → ((s₁ m₁ : List ℕ) (g : ℕ) → Goes R g s₁ m₁ (rest s₁ m₁ g)) → Goes R f s m (and_then x rest)
  unfolding and_then
  then_goes (to {s₁ = t} {m₁ = n} {us = us} {left = g} h r l) k = after_goes us h r l (k t n g)
  then_goes (back h r) k = back h r
  then_goes nowhere k = nowhere

  pick_goes : {f : ℕ} {s m : List ℕ} {x y : Result} → Goes R f s m x → Goes R f s m y → (b : Bool) → Goes R f s m (elim b [ true ↦ x | false ↦ y ])
  pick_goes h k true = h
  pick_goes h k false = k

  -- a unit is gone
  less_goes : {f : ℕ} {s m : List ℕ} {x : Result} → Goes R f s m x → Goes R (suc f) s m x
  less_goes (to h r l) = to (le_step h) r l
  less_goes (back h r) = back (le_step h) r
  less_goes nowhere = nowhere

  charge_goes : (f : ℕ) {s m : List ℕ} {rest : ℕ → Result} → ((left : ℕ) → Goes R left s m (rest left)) → Goes R f s m (charge f rest)
  unfolding charge
  charge_goes zero h = nowhere
  charge_goes (suc f) h = less_goes (h f)

  loop_goes : (v : ℕ) (e : Expr) {body : ℕ → List ℕ → List ℕ → Result} → BodyGoes R body → (n : ℕ) → BodyGoes R (loop v e body n)
  unfolding loop
  loop_goes v e h zero f s m = nowhere
  loop_goes v e h (suc n) zero s m = nowhere
  loop_goes v e h (suc n) (suc f) s m =
      less_goes (pick_goes (then_goes (h f s m) (λ s₁ m₁ f₁. loop_goes v e h n f₁ s₁ m₁)) (to (le_refl f) (steps.stay s) refl) (truth (evaluate v m e)))

  attempt_goes : {body : ℕ → List ℕ → List ℕ → Result} → BodyGoes R body → (n : ℕ) → BodyGoes R (attempt body n)
  unfolding attempt
  attempt_goes h zero f s m = nowhere
  attempt_goes h (suc n) zero s m = nowhere
  attempt_goes {body} h (suc n) (suc f) s m = less_goes (again (attempt_goes h n) (h f s m))
    where
      again : BodyGoes R (attempt body n) → {x : Result} → Goes R f s m x
          → Goes R f s m (elim x [ done s₁ m₁ us f₁ ↦ done s₁ m₁ us f₁ | rolled s₁ us f₁ ↦ after us (attempt body n f₁ s₁ m) | spent us ↦ spent us ])
      again k (to h r l) = to h r l
      again k (back {s₁ = t} {us = us} {left = g} h r) = after_goes us h r refl (k g t m)
      again k nowhere = nowhere

  pub goes : (v : ℕ) (x : Stmt) → Respects R x → (listed : List Query) → BodyGoes R (execute v x listed)
  unfolding execute
  goes v skip h listed f s m = charge_goes f (λ left. to (le_refl left) (steps.stay s) refl)
  goes v (assign at x e) h listed f s m = charge_goes f (λ left. to (le_refl left) (steps.stay s) (length_set_value m x _))
  goes v empty h listed f s m = to (le_refl f) (steps.stay s) refl
  goes v (block a b) h listed f s m = then_goes (goes v a h.0 listed f s m) (λ s₁ m₁ f₁. goes v b h.1 listed f₁ s₁ m₁)
  goes v (if e a b) h listed f s m = charge_goes f (λ left. pick_goes (goes v a h.0 listed left s m) (goes v b h.1 listed left s m) (truth (evaluate v m e)))
  goes v (while e a) h listed f s m = loop_goes v e (goes v a h listed) _ f s m
  goes v (query at q a b) h listed f s m = charge_goes f (λ left. pick_goes (goes v a h.0 listed left s m) (goes v b h.1 listed left s m) (holds s q))
  goes v (update at ms) h listed f s m = charge_goes f (λ left. pick_goes (back (le_refl left) (h s)) (to (le_refl left) (h s) refl) (broken listed s (mutate_all s ms)))
  goes v (transaction at start end qs a) h listed f s m = attempt_goes (λ f₁ s₁ m₁. goes v a h qs f₁ s₁ m₁) _ f s m

  -- mutations that each go along R do so together
  mutate_all_goes : (ms : List Mutation) → Each (λ k. (s : List ℕ) → R s (mutate s k.kind k.role k.operand)) ms → (s : List ℕ) → R s (mutate_all s ms)
  unfolding mutate_all
  mutate_all_goes [] h s = steps.stay s
  mutate_all_goes (k ∷ ms) h s = steps.chain (h k (Memᴰ.head refl) s) (mutate_all_goes ms (λ j i. h j (Memᴰ.tail i)) _)

  -- from a run's start to its end
  pub run_goes : (s p m : List ℕ) (f : ℕ) → ((b : Begins s p m f) → Respects R b.program.body) → R s (run s p m f).policy × (length (run s p m f).memory ≡ length m)
  run_goes s p m f h = go (ran s p m f)
    where
      finished : {s₁ m₁ : List ℕ} {us : List Update} {left : ℕ} → Goes R f s m (done s₁ m₁ us left) → R s s₁ × (length m₁ ≡ length m)
      finished (to h r l) = (r, l)

      go : {o : Outcome} → Ran s p m f o → R s o.policy × (length o.memory ≡ length m)
      go (refuses k some few) = (steps.stay s, refl)
      go (finishes b e) = finished (rw e at (goes (version p) b.program.body (h b) [] f s m))
      go (spends b e) = (steps.stay s, refl)

-- the fixed part and the length, which no mutation changes
abbrev pub SameShape : List ℕ → List ℕ → Type 0
SameShape a b = SameFixed a b × (length b ≡ length a)

pub shape_steps : Steps SameShape
shape_steps = record {
  stay = λ s. (fixed_refl s, refl);
  chain = λ {s} {t} {u} g h. (fixed_trans g.0 h.0, h.1 ∙ g.1);
}

pub shape_respected : (x : Stmt) → Respects SameShape x
shape_respected skip = tt
shape_respected (assign at x e) = tt
shape_respected empty = tt
shape_respected (block a b) = (shape_respected a, shape_respected b)
shape_respected (if e a b) = (shape_respected a, shape_respected b)
shape_respected (while e a) = shape_respected a
shape_respected (query at q a b) = (shape_respected a, shape_respected b)
shape_respected (update at ms) = mutate_all_goes shape_steps ms (λ k i s. (mutate_fixed s k.kind k.role k.operand, length_mutate s k.kind k.role k.operand))
shape_respected (transaction at start end qs a) = shape_respected a

-- the fixed part never changes
pub run_fixed : (s p m : List ℕ) (f : ℕ) → SameFixed s (run s p m f).policy
run_fixed s p m f = (run_goes shape_steps s p m f (λ b. shape_respected b.program.body)).0.0

-- what a finished run spends and what it leaves is its fuel
pub units_left : (s p m : List ℕ) (f : ℕ) (b : Begins s p m f) (s₁ m₁ : List ℕ) (us : List Update) (left : ℕ) → result b ≡ done s₁ m₁ us left → (run s p m f).units + left ≡ f
unfolding finish
units_left s p m f b s₁ m₁ us left e =
    let r : run s p m f ≡ finish s m f (done s₁ m₁ us left) = run_is s p m f b ∙ ap (finish s m f) e in
    let l : left ≤ f = kept (rw e at (goes shape_steps (version p) b.program.body (shape_respected b.program.body) [] f s m)) in
    rw r (omega arith)
  where
    kept : Goes SameShape f s m (done s₁ m₁ us left) → left ≤ f
    kept (to h r l) = h

-- policy and memory keep their lengths
pub run_lengths : (s p m : List ℕ) (f : ℕ) → (length (run s p m f).policy ≡ length s) × (length (run s p m f).memory ≡ length m)
run_lengths s p m f = let g = run_goes shape_steps s p m f (λ b. shape_respected b.program.body) in (g.0.1, g.1)

-- the row of a role, which only mutations that name it change
module _ (r : ℕ) where
  abbrev pub SameRow : List ℕ → List ℕ → Type 0
  SameRow a b = Agree a b r

  pub row_steps : Steps SameRow
  row_steps = record { stay = λ s. agree_refl s r; chain = λ {s} {t} {u} g h. agree_trans g h }

  neither : (a b : ℕ) → has (bit_or a b) r ≡ false → (has a r ≡ false) × (has b r ≡ false)
  neither a b h = (backwards (has a r) (has (bit_or a b) r) (has_or_l a b r) h, backwards (has b r) (has (bit_or a b) r) (has_or_r a b r) h)

  unnamed : (ms : List Mutation) → has (roles_of ms) r ≡ false → Each (λ k. r ≡ k.role → ⊥) ms
  unfolding roles_of
  unnamed [] h = λ k i. absurd (Memᴰ.not-nil i)
  unnamed (k ∷ ms) h = each_cons
      (λ e. true≢false (sym (has_with_same (roles_of ms) k.role) ∙ rw e at h))
      (unnamed ms (backwards (has (roles_of ms) r) (has (with (roles_of ms) k.role) r) (has_with (roles_of ms) k.role r) h))

  pub row_respected : (x : Stmt) → has (mutated x) r ≡ false → Respects SameRow x
  unfolding mutated
  row_respected skip h = tt
  row_respected (assign at x e) h = tt
  row_respected empty h = tt
  row_respected (block a b) h = let (i, j) = neither (mutated a) (mutated b) h in (row_respected a i, row_respected b j)
  row_respected (if e a b) h = let (i, j) = neither (mutated a) (mutated b) h in (row_respected a i, row_respected b j)
  row_respected (while e a) h = row_respected a h
  row_respected (query at q a b) h = let (i, j) = neither (mutated a) (mutated b) h in (row_respected a i, row_respected b j)
  row_respected (update at ms) h = mutate_all_goes row_steps ms (λ k i s. mutate_other s k.kind k.role k.operand r (unnamed ms h k i))
  row_respected (transaction at start end qs a) h = row_respected a h

  -- a row that no update of the program names ends unchanged
  pub rows_unnamed : (s p m : List ℕ) (f : ℕ) (body : Stmt) (end : ℕ) → read_program p (principals s) (roles s) ≡ got body end → has (mutated body) r ≡ false → Agree s (run s p m f).policy r
  rows_unnamed s p m f body end e h = (run_goes row_steps s p m f (λ b. row_respected b.program.body (let same : b.program.body ≡ body = cc b.program.is_read in rw same h))).0

-- an accepted policy with the fixed part of s, and what leads from such a one to such a one
module _ (s : List ℕ) where
  abbrev pub Fine : List ℕ → Type 0
  Fine a = Accepted a × SameFixed s a

  abbrev pub KeepsFine : List ℕ → List ℕ → Type 0
  KeepsFine a b = Fine a → Fine b

  pub fine_steps : Steps KeepsFine
  fine_steps = record { stay = λ a h. h; chain = λ {s} {t} {u} g h k. h (g k) }

  -- a mutation that s allows does, since what is allowed depends on the fixed part only
  mutate_fine : {rs : ℕ} {k : Mutation} → Mutates s rs k → (a : List ℕ) → KeepsFine a (mutate a k.kind k.role k.operand)
  mutate_fine h a (ok, e) = (mutates_accepted h e ok, mutates_fixed h e)

  module _ (good : Accepted s) (p : List ℕ) where
    -- and acceptance says that each update has such mutations only
    pub fine_respected : (around : Around) (known : List Query) (context : Side → List Atom) (x : Stmt) → Placed s p around known context x → Respects KeepsFine x
    fine_respected around known context skip h = tt
    fine_respected around known context (assign at x e) h = tt
    fine_respected around known context empty h = tt
    fine_respected around known context (block a b) h = let (i, j) = parts s p good h in (fine_respected around known context a i, fine_respected around known context b j)
    fine_respected around known context (if e a b) h = let (i, j) = parts s p good h in (fine_respected around known (under_expr p e context) a i, fine_respected around known (under_expr p e context) b j)
    fine_respected around known context (while e a) h = fine_respected around known (under_expr p e context) a (parts s p good h)
    fine_respected outside known context (query at q a b) h = absurd (parts s p good h)
    fine_respected (inside listed xs rs) known context (query at q a b) h = let (i, j) = parts s p good h in (fine_respected (inside listed xs rs) i.knows (under_query q context) a i.placed, fine_respected (inside listed xs rs) j.knows (under_query q context) b j.placed)
    fine_respected outside known context (update at ms) h = absurd (parts s p good h)
    fine_respected (inside listed xs rs) known context (update at ms) h = mutate_all_goes fine_steps ms (λ k i a. mutate_fine ((parts s p good h).0 k i) a)
    fine_respected outside known context (transaction at start end qs a) h = fine_respected (inside qs (assigned a) (mutated a)) known context a (parts s p good h)
    fine_respected (inside listed xs rs) known context (transaction at start end qs a) h = absurd (parts s p good h)

-- the end policy of a finished run is an accepted one
pub run_accepted : (s p m : List ℕ) (f : ℕ) → (run s p m f).number ≡ accepted → Accepted (run s p m f).policy
run_accepted s p m f h =
    let good = (finished_begins s p m f h).program.policy in
    ((run_goes (fine_steps s) s p m f (λ b. fine_respected s good p outside [] (λ side. []) b.program.body b.program.placed)).0 (good, fixed_refl s)).0
