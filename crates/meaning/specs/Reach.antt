-- How far a search from a role has come.
use Rattle.std.specs.Prelude.{◌≡◌, List, true, ℕ, ◌^◌, ◌<◌, ◌≤◌, length, get_or}
use Rattle.model.specs.Limits.{role_limit}
use Rattle.model.specs.Sets.{has}
use Rattle.model.specs.Policy.{roles, members, takes}
use Rattle.model.specs.Meaning.{meaning}

-- a search from role r has seen roles, is done with some of them, and has the bits of those; what it sees and has, r means
pub record Reached (s : List ℕ) (r seen done bits : ℕ) : Type 0 where
  pub start : has seen r ≡ true
  pub inside : seen < 2 ^ roles s
  pub done_seen : (j : ℕ) → has done j ≡ true → has seen j ≡ true
  pub seen_means : (j p : ℕ) → has seen j ≡ true → has (meaning s j) p ≡ true → has (meaning s r) p ≡ true
  pub bits_means : (p : ℕ) → has bits p ≡ true → has (meaning s r) p ≡ true
  pub done_own : (j p : ℕ) → has done j ≡ true → has (members s j) p ≡ true → has bits p ≡ true
  pub done_taken : (j k : ℕ) → has done j ≡ true → has (takes s j) k ≡ true → has seen k ≡ true

-- such a search that is done with r itself
pub record Found (s : List ℕ) (r seen done bits : ℕ) : Type 0 where
  pub reached : Reached s r seen done bits
  pub self : has done r ≡ true

-- the searches from role n on side by side, with room for those from all roles
pub record Searches (s : List ℕ) (n : ℕ) (seen done sets : List ℕ) : Type 0 where
  pub few : roles s ≤ role_limit
  pub seen_room : length seen ≡ role_limit
  pub done_room : length done ≡ role_limit
  pub sets_room : length sets ≡ roles s
  pub each : (r : ℕ) → n ≤ r → r < roles s → Found s r (get_or seen r 0) (get_or done r 0) (get_or sets r 0)
