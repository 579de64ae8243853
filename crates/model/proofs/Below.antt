-- A number below suc n is n, or below n: the step of a recursion over the numbers below n.
use Prim.Native.Nat.{ℕ, suc, ◌<◌}
use mathlib.Core.Path.{◌≡◌}
use mathlib.Core.Logic.{◌⊎◌}
use native.Mathlib.Nat.{eq-or-lt_of_le, le_of_suc-le-suc}

pub last_or : (n i : ℕ) → i < suc n → (i ≡ n) ⊎ (i < n)
last_or n i h = eq-or-lt_of_le (le_of_suc-le-suc h)
