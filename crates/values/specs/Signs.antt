-- The side of zero on which the quotient of two values stands.
use Rattle.std.specs.Prelude.{ℕ, cond}
use Rattle.model.specs.Value.{negative, negate}

-- one on that side: 1, or -1 where just one of the two is below zero
unfoldable pub outward : ℕ → ℕ → ℕ
outward a b = cond (negative a) (cond (negative b) 1 (negate 1)) (cond (negative b) (negate 1) 1)
