-- Sets as words of 64 bits.
use Rattle.std.specs.Prelude.{ℕ, ◌^◌, ◌<◌, ◌≡◌, Bool, true, false, cond, ltb}
use Rattle.model.specs.Sets.{has}

-- the set of one number, empty where the number is past the word
unfoldable pub single : ℕ → ℕ
single i = cond (ltb i 64) (2 ^ i) 0

-- `new` is the union of `old` and the sets f j of those j in `some` that are no longer left in `rest`; it may have more of the
-- sets of `some`, and nothing else
pub record United (f : ℕ → ℕ) (some rest old new : ℕ) : Type 0 where
  pub left : (j : ℕ) → has rest j ≡ true → has some j ≡ true
  pub kept : (k : ℕ) → has old k ≡ true → has new k ≡ true
  pub added : (j k : ℕ) → has some j ≡ true → has rest j ≡ false → has (f j) k ≡ true → has new k ≡ true
  pub least : (H : ℕ → Bool) → ((k : ℕ) → has old k ≡ true → H k ≡ true) → ((j k : ℕ) → has some j ≡ true → has (f j) k ≡ true → H k ≡ true) → (k : ℕ) → has new k ≡ true → H k ≡ true
  pub below : (n : ℕ) → old < 2 ^ n → ((j : ℕ) → has some j ≡ true → f j < 2 ^ n) → new < 2 ^ n
