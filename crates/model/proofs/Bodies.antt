-- The bodies of the transactions in a statement, as parts of the program's bytes.
use Prim.Native.Nat.{ℕ, zero, suc, ◌+◌, ◌≤◌}
use native.Mathlib.Omega.{arith}
use mathlib.Core.Path.{◌≡◌, refl}
use mathlib.Core.Logic.{⊎_elim}
use mathlib.Core.List.Memᴰ
use mathlib.Core.List.{List, [], ◌∷◌, ◌++◌}
use lib.ListN.{get_or}
use Rattle.model.specs.Number.{fine, refused}
use Rattle.model.specs.Policy.{principals, roles}
use Rattle.model.specs.Syntax.{Stmt}
use Rattle.model.specs.Program.{got, block_of, read_program}
use Rattle.model.specs.Flow.{Part, part, bodies, body_at, program_verdict, transaction_part}
use Rattle.model.specs.Fits.{Each}

-- a part of the bytes ends at a position or before
abbrev pub PartWithin : ℕ → Part → Type 0
PartWithin end (part start size) = start + size ≤ end

part_later : {m n : ℕ} → m ≤ n → (q : Part) → PartWithin m q → PartWithin n q
part_later l (part start size) h = omega arith

-- the bodies in a statement end where it does or before
abbrev pub BodiesWithin : ℕ → Stmt → Type 0
BodiesWithin end x = Each (PartWithin end) (bodies x)

pub bodies_later : (m n : ℕ) → m ≤ n → (x : Stmt) → BodiesWithin m x → BodiesWithin n x
bodies_later m n l x f q i = part_later l q (f q i)

pub two_within : {mid end : ℕ} (xs ys : List Part) → mid ≤ end → Each (PartWithin mid) xs → Each (PartWithin end) ys → Each (PartWithin end) (xs ++ ys)
two_within xs ys l f g q m = ⊎_elim (λ i. part_later l q (f q i)) (g q) (Memᴰ.append_cases xs m)

pub none_within : (end : ℕ) → Each (PartWithin end) []
none_within end q m = absurd (Memᴰ.not-nil m)

pub block_within : {end : ℕ} (xs : List Stmt) → Each (BodiesWithin end) xs → BodiesWithin end (block_of xs)
unfolding block_of bodies
block_within {end} [] f = none_within end
block_within {end} (x ∷ xs) f = two_within (bodies x) (bodies (block_of xs)) (omega arith) (f x (Memᴰ.head refl)) (block_within xs (λ y m. f y (Memᴰ.tail m)))

-- the one at a place, or another that is so
pub each_at : {A : Type 0} {Q : A → Type 0} (xs : List A) (k : ℕ) (d : A) → Each Q xs → Q d → Q (get_or xs k d)
each_at [] k d f h = h
each_at (x ∷ xs) zero d f h = f x (Memᴰ.head refl)
each_at (x ∷ xs) (suc k) d f h = each_at xs k d (λ y m. f y (Memᴰ.tail m)) h

-- the body of transaction k: the empty part under a refusal, else that of what was read
module _ (s p : List ℕ) (k : ℕ) where
  pub transaction_none : {n place : ℕ} → program_verdict s p ≡ refused n place → transaction_part s p k ≡ part 0 0
  unfolding transaction_part
  transaction_none e = rw e

  pub transaction_is : {x : Stmt} {end : ℕ} → program_verdict s p ≡ fine → read_program p (principals s) (roles s) ≡ got x end → transaction_part s p k ≡ get_or (bodies x) k (part 0 0)
  unfolding transaction_part body_at
  transaction_is e h = rw (e, h)
