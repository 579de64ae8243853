-- Values as the integers that they stand for, and what congruence and a quotient are among integers: the words of the laws
-- that the operators' definitions in `Value` are held to.
use Rattle.std.specs.Prelude.{ℕ, ◌*◌, ◌≤◌, ◌<◌, ◌^◌, ◌≡◌, cond, leb, ℤ, pos, ◌+ℤ◌, ◌-ℤ◌, ◌*ℤ◌, nat_abs}

-- two's complement: a value below 2^31 stands for itself, one from there on for itself less 2^32
unfoldable pub signed : ℕ → ℤ
signed a = cond (leb (2 ^ 31) a) (pos a -ℤ pos (2 ^ 32)) (pos a)

-- congruent modulo 2^32: they differ by a multiple of it
pub record Congruent (x y : ℤ) : Type 0 where
  pub times : ℤ
  pub differ : x ≡ y +ℤ times *ℤ pos (2 ^ 32)

-- q is x by y with its fraction dropped towards zero: q times y is off x by less than y, and no further from zero than x
pub record Quotient (x y q : ℤ) : Type 0 where
  pub rest : ℤ
  pub whole : x ≡ q *ℤ y +ℤ rest
  pub small : nat_abs rest < nat_abs y
  pub towards_zero : nat_abs (q *ℤ y) ≤ nat_abs x

-- q is the nearest to x by y, halves away from zero: q times y is off x by at most half of y and, where by just half, no nearer
-- to zero than x
pub record Nearest (x y q : ℤ) : Type 0 where
  pub rest : ℤ
  pub whole : x ≡ q *ℤ y +ℤ rest
  pub at_most_half : 2 * nat_abs rest ≤ nat_abs y
  pub halves_away : 2 * nat_abs rest ≡ nat_abs y → nat_abs x ≤ nat_abs (q *ℤ y)
