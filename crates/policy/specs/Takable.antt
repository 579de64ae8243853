-- Roles such as a row may take in.
use Rattle.std.specs.Prelude.{◌≡◌, List, true, ℕ}
use Rattle.model.specs.Sets.{has}
use Rattle.model.specs.Policy.{may_take}

-- row i may take in every role of a set
unfoldable pub Takable : List ℕ → ℕ → ℕ → Type 0
Takable s i takable = (j : ℕ) → has takable j ≡ true → may_take s i j ≡ true
