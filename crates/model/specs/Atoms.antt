-- What atoms stand for under a policy, and when a query holds.
use Rattle.std.specs.Prelude.{ℕ, List, Bool}
use Rattle.model.specs.Sets.{within}
use Rattle.model.specs.Meaning.{meaning}
use Rattle.model.specs.Syntax.{Atom, role, fixed, Query}
use Rattle.model.specs.Order.{fixed_set}

-- an atom stands for a set of principals, a role for its meaning
unfoldable pub atom_set : List ℕ → Atom → ℕ
atom_set s (role j) = meaning s j
atom_set s (fixed f) = fixed_set s f

-- a query holds when the second atom's set lies in the first's
unfoldable pub holds : List ℕ → Query → Bool
holds s q = within (atom_set s q.second) (atom_set s q.first)
