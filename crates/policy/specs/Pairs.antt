-- Which pairs of owner and name were seen, one bit for each pair that can be.
use Rattle.std.specs.Prelude.{◌≡◌, List, Bool, true, ℕ, ◌+◌, ◌*◌, ◌/◌, ◌%◌, ◌<◌, ◌≤◌, length, get_or, set}
use Rattle.model.specs.Sets.{has, with}
use Rattle.model.specs.Policy.{principals, owner, name}

-- owner and name of row i as one number
abbrev pub pair : List ℕ → ℕ → ℕ
pair s i = owner s i * 256 + name s i

-- whether a number is marked in words of 64 bits
unfoldable pub marked : List ℕ → ℕ → Bool
marked t c = has (get_or t (c / 64) 0) (c % 64)

-- the words with a number marked
unfoldable pub mark : List ℕ → ℕ → List ℕ
mark t c = set t (c / 64) (with (get_or t (c / 64) 0) (c % 64))

-- the marks are those of the first i rows' pairs; there is room for 256 names of each principal
pub record Seen (s t : List ℕ) (i : ℕ) : Type 0 where
  pub room : 256 * principals s ≤ 64 * length t
  pub marks : (j : ℕ) → j < i → marked t (pair s j) ≡ true
  pub marks_of : (c : ℕ) → marked t c ≡ true → (j : ℕ) × (j < i) × (name s j < 256) × (pair s j ≡ c)
