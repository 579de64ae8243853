-- What a copy leaves alone.
use Rattle.std.specs.Prelude.{ℕ, ◌≤◌, ◌≡◌, List, length, get_or}

-- words from the n-th on are as they were, and as many
pub record Kept (n : ℕ) (old new : List ℕ) : Type 0 where
  pub same_length : length new ≡ length old
  pub same : (i : ℕ) → n ≤ i → get_or new i 0 ≡ get_or old i 0
