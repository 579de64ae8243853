-- The sets of all atoms under a policy, kept as words by the atoms' bytes: a query is two of them and a test.
use Rattle.std.specs.Prelude.{◌≡◌, ℕ, ◌+◌, ◌<◌, List, length, get_or}
use Rattle.model.specs.Policy.{roles, viewers, trusters, Accepted}
use Rattle.model.specs.Syntax.{Fixed, Atom, fixed, atom_byte}
use Rattle.model.specs.Fits.{AtomFits}
use Rattle.model.specs.Order.{fixed_set}
use Rattle.model.specs.Atoms.{atom_set}

-- a word for each byte
abbrev pub atom_words : ℕ
atom_words = 256

-- the words hold the set of each atom that there is, under an accepted policy
pub record Live (s atoms : List ℕ) : Type 0 where
  pub accepted : Accepted s
  pub long : length atoms ≡ atom_words
  pub sets : (a : Atom) → AtomFits (roles s) a → get_or atoms (atom_byte a) 0 ≡ atom_set s a

-- the same of viewers, trusters and everyone, which the fixed part gives
pub record FixedLive (s atoms : List ℕ) : Type 0 where
  pub accepted : Accepted s
  pub long : length atoms ≡ atom_words
  pub sets : (f : Fixed) → AtomFits (roles s) (fixed f) → get_or atoms (atom_byte (fixed f)) 0 ≡ fixed_set s f

-- the same of the viewers and trusters of the first n roles
pub record Watched (s : List ℕ) (n : ℕ) (atoms : List ℕ) : Type 0 where
  pub long : length atoms ≡ atom_words
  pub views : (j : ℕ) → j < n → get_or atoms (0x40 + j) 0 ≡ viewers s j
  pub trusts : (j : ℕ) → j < n → get_or atoms (0x80 + j) 0 ≡ trusters s j
