-- The sets of the atoms brought up to date: what is right while some principals are left, and when none is.
use Rattle.std.specs.Prelude.{◌≡◌, ℕ, ◌<◌, ◌≤◌, List, length, get_or}
use Rattle.model.specs.Limits.{role_limit}
use Rattle.model.specs.Sets.{has}
use Rattle.model.specs.Policy.{roles}
use Rattle.tracked.specs.Live.{Live, FixedLive}
use Rattle.tracked.specs.Index.{known_at, current, placed, Few, Fresh, Indexed, Untouched, Known, Tracked}

-- an accepted policy with its words the other way round, of which none was touched, what is known of roles, and the sets of its
-- atoms but for the places of some principals
pub record Settling (s atoms w : List ℕ) (some : ℕ) : Type 0 where
  pub fixed_live : FixedLive s atoms
  pub indexed : Indexed s (roles s) w
  pub untouched : Untouched w
  pub few : Few some
  pub fresh : Fresh s atoms some
  pub known : Known (current w) w (get_or w known_at 0)

-- what is tracked, and the sets are right
pub record Settled (s atoms w : List ℕ) : Type 0 where
  pub tracked : Tracked s atoms w
  pub live : Live s atoms

-- u is w with the principal p in the first n words where these are among some roles, and in no other of them; behind the words
-- of roles nothing changes
pub record Spread (n among p : ℕ) (w u : List ℕ) : Type 0 where
  pub long : length u ≡ length w
  pub inside : (r : ℕ) → r < n → get_or u r 0 ≡ placed (has among r) (get_or w r 0) p
  pub outside : (r : ℕ) → role_limit ≤ r → get_or u r 0 ≡ get_or w r 0
