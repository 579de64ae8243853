-- A law for each return of version_of: only a 2 says version 2.
use mathlib.Core.Path.{◌≡◌}
use Prim.Native.Nat.{ℕ}
use mathlib.Core.List.{List}
use borrow.Author.Tests.{eq-eqb, ne_eqb}
use Rattle.model.specs.Bytes.{byte}
use Rattle.model.specs.Program.{version}

module _ (p : List ℕ) (x : ℕ) (e : x ≡ byte p 3) where
  pub version_two : x ≡ 2 → 2 ≡ version p
  unfolding version
  version_two h = rw (← e, eq-eqb _ _ h)

  pub version_one : (x ≡ 2 → ⊥) → 1 ≡ version p
  unfolding version
  version_one n = rw (← e, ne_eqb _ _ n)

pub ruleset versions = (version_two, version_one)
