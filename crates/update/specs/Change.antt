-- What carrying out an update gives.
use Rattle.std.specs.Prelude.{◌≡◌, ℕ, ◌+◌, List, Bool, not, ◌&&◌, eqb, length, get_or}
use Rattle.std.specs.Int.Bits.{bit_or}
use Rattle.model.specs.Bytes.{byte}
use Rattle.model.specs.Policy.{principals, roles, SameFixed}
use Rattle.model.specs.Mutation.{Mutation}
use Rattle.model.specs.Syntax.{Query}
use Rattle.model.specs.Program.{got, read_many, read_query, read_mutation}
use Rattle.model.specs.Run.{mutate_all, broken}
use Rattle.tracked.specs.Live.{Live}
use Rattle.tracked.specs.Index.{moved_at, rewired_at, Tracked}

-- whether the sets are asked for and may be out of date: something is listed, and a word was touched
unfoldable pub is_awaited : ℕ → List ℕ → Bool
is_awaited count w = not (eqb count 0) && not (eqb (bit_or (get_or w moved_at 0) (get_or w rewired_at 0)) 0)

-- t is the policy s after the update whose code stands at a position, with what is tracked of it; and whether one of the
-- queries listed at another position held under s and fails under t
pub record CarriedOut (p s : List ℕ) (at listing count : ℕ) (t atoms w : List ℕ) (broke : Bool) : Type 0 where
  pub tracked : Tracked t atoms w
  pub same_fixed : SameFixed s t
  pub same_length : length t ≡ length s
  pub made : (ms : List Mutation) (end : ℕ) → read_many (read_mutation p (principals s) (roles s)) (byte p (at + 1)) (at + 2) ≡ got ms end → t ≡ mutate_all s ms
  pub judged : (qs : List Query) (end : ℕ) → read_many (read_query p (roles s)) count listing ≡ got qs end → broke ≡ broken qs s t

-- the sets were w and now are those of the policy t; and whether one of the listed queries held under the policy that had the
-- sets w and fails under t
pub record Judged (p : List ℕ) (listing count : ℕ) (t w atoms i : List ℕ) (broke : Bool) : Type 0 where
  pub tracked : Tracked t atoms i
  pub judged : (s : List ℕ) → Live s w → roles s ≡ roles t → (qs : List Query) (end : ℕ) → read_many (read_query p (roles s)) count listing ≡ got qs end → broke ≡ broken qs s t
