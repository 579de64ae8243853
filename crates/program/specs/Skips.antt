-- Skips that stand in a row.
use Rattle.std.specs.Prelude.{ℕ, ◌+◌, ◌<◌, ◌≡◌, List, length}
use Rattle.model.specs.Bytes.{byte}

-- at a position and behind it stand n of them
pub data Skips (s : List ℕ) (at : ℕ) : ℕ → Type 0 where
  no_skip : Skips s at 0
  skip_more : (n : ℕ) → Skips s at n → at + n < length s → byte s (at + n) ≡ 0 → Skips s at (n + 1)
