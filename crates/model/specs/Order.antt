-- Order between labels: "a at most b" under known queries, as the least relation of document 01 and as a test of it.
use Rattle.std.specs.Prelude.{ℕ, ◌-◌, ◌^◌, ◌≡◌, Bool, true, false, ◌&&◌, ◌||◌, eqb}
use mathlib.Core.List.{List, [], ◌∷◌, Memᴰ}
use Rattle.model.specs.Sets.{within}
use Rattle.model.specs.Policy.{Side, reading, trust, principals, watchers}
use Rattle.model.specs.Syntax.{Fixed, of, everyone, Atom, role, fixed, Query}

-- the set that viewers, trusters or everyone stand for
unfoldable pub fixed_set : List ℕ → Fixed → ℕ
fixed_set s (of side j) = watchers side s j
fixed_set s everyone = 2 ^ principals s - 1

-- the first at most the second when the second's set lies in the first's
unfoldable pub includes : List ℕ → Fixed → Fixed → Bool
includes s f g = within (fixed_set s g) (fixed_set s f)

-- the least reflexive, transitive relation with: each known query; viewers and trusters of a role at most that role;
-- and the inclusions between viewers, trusters and everyone
pub data AtMost (s : List ℕ) (known : List Query) : Atom → Atom → Type 0 where
  same : {a : Atom} → AtMost s known a a
  chain : {a b c : Atom} → AtMost s known a b → AtMost s known b c → AtMost s known a c
  asked : {q : Query} → Memᴰ q known → AtMost s known q.first q.second
  own : {side : Side} {j : ℕ} → AtMost s known (fixed (of side j)) (role j)
  lies : {f g : Fixed} → includes s f g ≡ true → AtMost s known (fixed f) (fixed g)

-- the test with no query known
unfoldable pub base : List ℕ → Atom → Atom → Bool
base s (role i) (role j) = eqb i j
base s (role i) (fixed g) = false
base s (fixed f) (role j) = includes s f (of reading j) || includes s f (of trust j)
base s (fixed f) (fixed g) = includes s f g

-- the test under known queries: one more query joins what is at most its first atom to what its second is at most
unfoldable pub at_most : List ℕ → List Query → Atom → Atom → Bool
at_most s [] a b = base s a b
at_most s (q ∷ known) a b = at_most s known a b || (at_most s known a q.first && at_most s known q.second b)

-- a join of atoms is at most b when each atom is; the empty join always is
unfoldable pub join_at_most : List ℕ → List Query → List Atom → Atom → Bool
join_at_most s known [] b = true
join_at_most s known (a ∷ join) b = at_most s known a b && join_at_most s known join b
