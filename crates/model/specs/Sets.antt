-- A set of numbers as the bits of a number: bit i says whether i is in it.
use Rattle.std.specs.Prelude.{ℕ, ◌-◌, ◌/◌, ◌%◌, ◌^◌, Bool, cond, eqb}
use Rattle.std.specs.Int.Bits.{bit_or, bit_and}

-- whether i is in the set
abbrev pub has : ℕ → ℕ → Bool
has a i = eqb (a / 2 ^ i % 2) 1

-- whether every number in a is in b
abbrev pub within : ℕ → ℕ → Bool
within a b = eqb (bit_and a b) a

-- the set with i
abbrev pub with : ℕ → ℕ → ℕ
with a i = bit_or a (2 ^ i)

-- the set without i
abbrev pub without : ℕ → ℕ → ℕ
without a i = cond (has a i) (a - 2 ^ i) a
