-- The queries that a transaction lists, and which of them hold, as the bits of a word.
use Rattle.std.specs.Prelude.{◌≡◌, ℕ, suc, ◌≤◌, List, [], ◌∷◌, cond}
use Rattle.model.specs.Limits.{list_limit}
use Rattle.model.specs.Sets.{with}
use Rattle.model.specs.Policy.{roles}
use Rattle.model.specs.Syntax.{Query}
use Rattle.model.specs.Program.{got, read_many, read_query}
use Rattle.model.specs.Atoms.{holds}
use Rattle.tracked.specs.Live.{Live}

-- the numbers of those queries of a list that hold, where the first has number i
unfoldable pub held_from : List ℕ → ℕ → List Query → ℕ
held_from s i [] = 0
held_from s i (q ∷ qs) = cond (holds s q) (with (held_from s (suc i) qs) i) (held_from s (suc i) qs)

-- bit i says whether query i of the list holds
abbrev pub held_bits : List ℕ → List Query → ℕ
held_bits s qs = held_from s 0 qs

-- queries, no more than a transaction may list, stand one after the other from a position on
pub record ListedAt (p s : List ℕ) (count at : ℕ) : Type 0 where
  pub queries : List Query
  pub end : ℕ
  pub is_read : read_many (read_query p (roles s)) count at ≡ got queries end
  pub few : count ≤ list_limit

-- the same, shut likewise
unfoldable pub Listing : List ℕ → List ℕ → ℕ → ℕ → Type 0
Listing p s count at = ListedAt p s count at

-- the bits say which of these queries hold, under whatever policy the words hold the sets of
unfoldable pub HeldAt : List ℕ → ℕ → ℕ → List ℕ → ℕ → Type 0
HeldAt p at count atoms bits =
    (s : List ℕ) → Live s atoms → (qs : List Query) (end : ℕ) → read_many (read_query p (roles s)) count at ≡ got qs end → bits ≡ held_bits s qs
