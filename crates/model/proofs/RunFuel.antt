-- With d units more a statement that was not spent does the same and leaves d units more, since it asks of the fuel only whether a unit is left; so finishing carries up to larger fuels and being spent down to smaller ones.
use Prim.Native.Nat.{ℕ, zero, suc, ◌+◌, ◌-◌, ◌≤◌}
use native.Mathlib.Omega.{arith}
use mathlib.Core.Path.{◌≡◌, refl}
use mathlib.Core.List.{List, []}
use mathlib.Core.Bool.{Bool, true, false}
use Rattle.model.specs.Limits.{fuel_limit}
use Rattle.model.specs.Number.{accepted, fuel_spent}
use Rattle.model.specs.Syntax.{Query, Expr, Stmt, skip, assign, empty, block, if, while, query, update, transaction}
use Rattle.model.specs.Program.{version}
use Rattle.model.specs.Atoms.{holds}
use Rattle.model.specs.Value.{evaluate, truth}
use Rattle.model.specs.Run.{Update, Result, done, rolled, spent, after, charge, and_then, mutate_all, broken, loop, attempt, execute, finish, run}
use Rattle.model.proofs.RunLaws.{Begins, run_is, finished_begins, spent_begins}

-- the second result is the first with d units more left; where the first is spent nothing is said
data Longer (d : ℕ) : Result → Result → Type 0 where
  done_longer : {s m : List ℕ} {us : List Update} {f g : ℕ} → g ≡ f + d → Longer d (done s m us f) (done s m us g)
  rolled_longer : {s : List ℕ} {us : List Update} {f g : ℕ} → g ≡ f + d → Longer d (rolled s us f) (rolled s us g)
  was_spent : {us : List Update} {y : Result} → Longer d (spent us) y

-- so it is with two bodies, whatever fuel the first has
abbrev Body : Type 0
Body = ℕ → List ℕ → List ℕ → Result

abbrev BodyLonger : ℕ → Body → Body → Type 0
BodyLonger d a b = (f g : ℕ) → g ≡ f + d → (s m : List ℕ) → Longer d (a f s m) (b g s m)

module _ {d : ℕ} where
  after_longer : (us : List Update) {x y : Result} → Longer d x y → Longer d (after us x) (after us y)
  unfolding after
  after_longer us (done_longer e) = done_longer e
  after_longer us (rolled_longer e) = rolled_longer e
  after_longer us was_spent = was_spent

  then_longer : {x y : Result} {rest more : List ℕ → List ℕ → ℕ → Result} → Longer d x y
      → ((s m : List ℕ) (f g : ℕ) → g ≡ f + d → Longer d (rest s m f) (more s m g)) → Longer d (and_then x rest) (and_then y more)
  unfolding and_then
  then_longer (done_longer {s = s} {m = m} {us = us} {f = f} {g = g} e) h = after_longer us (h s m f g e)
  then_longer (rolled_longer e) h = rolled_longer e
  then_longer was_spent h = was_spent

  pick_longer : {x y v w : Result} → Longer d x v → Longer d y w → (b : Bool) → Longer d (elim b [ true ↦ x | false ↦ y ]) (elim b [ true ↦ v | false ↦ w ])
  pick_longer h k true = h
  pick_longer h k false = k

  charge_longer : {rest more : ℕ → Result} (f g : ℕ) → g ≡ f + d → ((f g : ℕ) → g ≡ f + d → Longer d (rest f) (more g)) → Longer d (charge f rest) (charge g more)
  unfolding charge
  charge_longer zero g e h = was_spent
  charge_longer (suc f) zero e h = absurd (omega arith)
  charge_longer (suc f) (suc g) e h = h f g (omega arith)

  -- the bounds are fuels, so the second is no less
  loop_longer : (v : ℕ) (e : Expr) {a b : Body} → BodyLonger d a b → (n k : ℕ) → n ≤ k → BodyLonger d (loop v e a n) (loop v e b k)
  unfolding loop
  loop_longer v e h zero k l f g q s m = was_spent
  loop_longer v e h (suc n) zero l f g q s m = absurd (omega arith)
  loop_longer v e h (suc n) (suc k) l zero g q s m = was_spent
  loop_longer v e h (suc n) (suc k) l (suc f) zero q s m = absurd (omega arith)
  loop_longer v e h (suc n) (suc k) l (suc f) (suc g) q s m =
      pick_longer (then_longer (h f g (omega arith) s m) (λ s₁ m₁ f₁ g₁ r. loop_longer v e h n k (omega arith) f₁ g₁ r s₁ m₁)) (done_longer (omega arith)) (truth (evaluate v m e))

  attempt_longer : {a b : Body} → BodyLonger d a b → (n k : ℕ) → n ≤ k → BodyLonger d (attempt a n) (attempt b k)
  unfolding attempt
  attempt_longer h zero k l f g q s m = was_spent
  attempt_longer h (suc n) zero l f g q s m = absurd (omega arith)
  attempt_longer h (suc n) (suc k) l zero g q s m = was_spent
  attempt_longer h (suc n) (suc k) l (suc f) zero q s m = absurd (omega arith)
  attempt_longer {a} {b} h (suc n) (suc k) l (suc f) (suc g) q s m = again (attempt_longer h n k (omega arith)) (h f g (omega arith) s m)
    where
      again : BodyLonger d (attempt a n) (attempt b k) → {x y : Result} → Longer d x y
          → Longer d
          (elim x [ done s₁ m₁ us f₁ ↦ done s₁ m₁ us f₁ | rolled s₁ us f₁ ↦ after us (attempt a n f₁ s₁ m) | spent us ↦ spent us ])
          (elim y [ done s₁ m₁ us f₁ ↦ done s₁ m₁ us f₁ | rolled s₁ us f₁ ↦ after us (attempt b k f₁ s₁ m) | spent us ↦ spent us ])
      again i (done_longer e) = done_longer e
      again i (rolled_longer {s = s₁} {us = us} {f = f₁} {g = g₁} e) = after_longer us (i f₁ g₁ e s₁ m)
      again i was_spent = was_spent

  longer : (v : ℕ) (x : Stmt) (listed : List Query) → BodyLonger d (execute v x listed) (execute v x listed)
  unfolding execute
  longer v skip listed f g e s m = charge_longer f g e (λ i j r. done_longer r)
  longer v (assign at x t) listed f g e s m = charge_longer f g e (λ i j r. done_longer r)
  longer v empty listed f g e s m = done_longer e
  longer v (block a b) listed f g e s m = then_longer (longer v a listed f g e s m) (λ s₁ m₁ i j r. longer v b listed i j r s₁ m₁)
  longer v (if t a b) listed f g e s m = charge_longer f g e (λ i j r. pick_longer (longer v a listed i j r s m) (longer v b listed i j r s m) (truth (evaluate v m t)))
  longer v (while t a) listed f g e s m = loop_longer v t (longer v a listed) _ _ (omega arith) f g e s m
  longer v (query at q a b) listed f g e s m = charge_longer f g e (λ i j r. pick_longer (longer v a listed i j r s m) (longer v b listed i j r s m) (holds s q))
  longer v (update at ms) listed f g e s m = charge_longer f g e (λ i j r. pick_longer (rolled_longer r) (done_longer r) (broken listed s (mutate_all s ms)))
  longer v (transaction at start end qs a) listed f g e s m = attempt_longer (λ f₁ g₁ e₁ s₁ m₁. longer v a qs f₁ g₁ e₁ s₁ m₁) _ _ (omega arith) f g e s m

-- what a run begins with at one fuel it begins with at any other that is in range
abbrev refuel : {s p m : List ℕ} {f : ℕ} (g : ℕ) → 1 ≤ g → g ≤ fuel_limit → Begins s p m f → Begins s p m g
refuel g some few b = record { verdict = b.verdict; program = b.program; memory_fits = b.memory_fits; fuel_some = some; fuel_limited = few }

module _ (s m : List ℕ) (d f g : ℕ) (e : g ≡ f + d) where
  finish_longer : {x y : Result} → Longer d x y → (finish s m f x).number ≡ accepted → finish s m g y ≡ finish s m f x
  unfolding finish
  finish_longer (done_longer {f = i} {g = j} r) h = let units : g - j ≡ f - i = omega arith in rw units
  finish_longer (rolled_longer r) h = absurd (omega arith)
  finish_longer was_spent h = absurd (omega arith)

  finish_shorter : {x y : Result} → Longer d x y → (finish s m g y).number ≡ fuel_spent → (finish s m f x).number ≡ fuel_spent
  unfolding finish
  finish_shorter (done_longer r) h = h
  finish_shorter (rolled_longer r) h = refl
  finish_shorter was_spent h = refl

module _ (s p m : List ℕ) (f g : ℕ) (more : f ≤ g) where
  difference : g ≡ f + (g - f)
  difference = omega arith

  -- a run that finishes at some fuel is the same run at any larger one: number, units, policy, memory and updates
  pub run_more_fuel : g ≤ fuel_limit → (run s p m f).number ≡ accepted → run s p m g ≡ run s p m f
  run_more_fuel few h =
      let b = finished_begins s p m f h in
      let c = refuel g (omega arith) few b in
      rw (run_is s p m f b, run_is s p m g c)
      (finish_longer s m (g - f) f g difference (longer (version p) b.program.body [] f g difference s m) (rw (run_is s p m f b) at h))

  -- a run that is spent at some fuel is spent at any smaller one
  pub run_less_fuel : 1 ≤ f → (run s p m g).number ≡ fuel_spent → (run s p m f).number ≡ fuel_spent
  run_less_fuel some h =
      let c = spent_begins s p m g h in
      let b = refuel f some (omega arith) c in
      rw (run_is s p m f b) (finish_shorter s m (g - f) f g difference (longer (version p) c.program.body [] f g difference s m) (rw (run_is s p m g c) at h))
