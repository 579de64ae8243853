-- The policy the other way round, as words: of each role the roles that take it in, of each principal the roles that have it as
-- a member. Of each of these words that was touched since the sets of the atoms were last right, the word as it was then. And,
-- where that is known, of each role the roles from which it is reached.
use Rattle.std.specs.Prelude.{◌≡◌, ℕ, ◌+◌, ◌-◌, ◌<◌, ◌≤◌, List, Bool, true, false, cond, not, eqb, ltb, length, get_or}
use Rattle.model.specs.Limits.{principal_limit, role_limit}
use Rattle.model.specs.Sets.{has, with, without}
use Rattle.model.specs.Policy.{roles, members, takes, Accepted}
use Rattle.model.specs.Meaning.{meaning}
use Rattle.model.specs.Mutation.{Kind, addMember, deleteMember, addTaken, deleteTaken, mutate}
use Rattle.shared.specs.Words.{single}
use Rattle.tracked.specs.Live.{FixedLive}

-- a word for each role and for each principal, one for the principals whose words were touched, one for the roles that are known,
-- one more for each role, one for the roles whose words were touched, and each of the first words as it was; where they begin
abbrev pub holders_at : ℕ
holders_at = role_limit

abbrev pub moved_at : ℕ
moved_at = holders_at + principal_limit

abbrev pub known_at : ℕ
known_at = moved_at + 1

abbrev pub above_at : ℕ
above_at = known_at + 1

abbrev pub rewired_at : ℕ
rewired_at = above_at + role_limit

abbrev pub before_at : ℕ
before_at = rewired_at + 1

abbrev pub index_words : ℕ
index_words = before_at + moved_at

-- word k, of a role that is taken in or of a principal; of the sets, that of role k
abbrev pub current : List ℕ → ℕ → ℕ
current w k = get_or w k 0

-- that word k was touched is said in this word, for this number
abbrev pub mark_at : ℕ → ℕ
mark_at k = cond (ltb k holders_at) rewired_at moved_at

abbrev pub mark_of : ℕ → ℕ
mark_of k = cond (ltb k holders_at) k (k - holders_at)

unfoldable pub Mark : ℕ → ℕ → ℕ → Type 0
Mark k mark x = (mark ≡ mark_at k) × (x ≡ mark_of k)

-- whether word k was touched since the sets were last right
unfoldable pub touched : List ℕ → ℕ → Bool
touched w k = has (get_or w (mark_at k) 0) (mark_of k)

-- word k as it was then
unfoldable pub before : List ℕ → ℕ → ℕ
before w k = cond (touched w k) (get_or w (before_at + k) 0) (get_or w k 0)

-- the words from `from` on whose numbers are in a set are of roles or principals
unfoldable pub SetInside : ℕ → ℕ → Type 0
SetInside from set = (j : ℕ) → j < 64 → has set j ≡ true → from + j < moved_at

-- u is w with i put into each word from `from` on whose number is in a set
pub record Entered (from set i : ℕ) (w u : List ℕ) : Type 0 where
  pub long : length u ≡ length w
  pub entered : (j : ℕ) → has set j ≡ true → get_or u (from + j) 0 ≡ with (get_or w (from + j) 0) i
  pub others : (k : ℕ) → ((j : ℕ) → has set j ≡ true → k ≡ from + j → ⊥) → get_or u k 0 ≡ get_or w k 0

-- the words from `from` on are the sets f 0 to f (n - 1) the other way round: i is in word j where j is in f i
pub record Transposed (f : ℕ → ℕ) (from width n : ℕ) (w : List ℕ) : Type 0 where
  pub same : (j i : ℕ) → j < width → i < n → has (get_or w (from + j) 0) i ≡ has (f i) j
  pub below : (j i : ℕ) → j < width → has (get_or w (from + j) 0) i ≡ true → i < n

-- the words of the first n roles of a policy
pub record Indexed (s : List ℕ) (n : ℕ) (w : List ℕ) : Type 0 where
  pub long : length w ≡ index_words
  pub takers : Transposed (takes s) 0 role_limit n w
  pub holders : Transposed (members s) holders_at principal_limit n w

-- no word was touched since the sets were last right
pub record Untouched (w : List ℕ) : Type 0 where
  pub none_moved : get_or w moved_at 0 ≡ 0
  pub none_rewired : get_or w rewired_at 0 ≡ 0

-- the words of the first n roles; none was touched, and of no role it is known from where it is reached
pub record Loaded (s : List ℕ) (n : ℕ) (w : List ℕ) : Type 0 where
  pub indexed : Indexed s n w
  pub untouched : Untouched w
  pub none_known : get_or w known_at 0 ≡ 0

-- principals that there may be
unfoldable pub Few : ℕ → Type 0
Few set = (p : ℕ) → has set p ≡ true → p < principal_limit

-- the policy the other way round beside it, with the principals whose words were touched
pub record Mirrored (s w : List ℕ) : Type 0 where
  pub accepted : Accepted s
  pub indexed : Indexed s (roles s) w
  pub few_moved : Few (get_or w moved_at 0)

-- a set with or without a number
unfoldable pub placed : Bool → ℕ → ℕ → ℕ
placed present a i = cond present (with a i) (without a i)

-- whether that is another set
unfoldable pub turns : Bool → ℕ → ℕ → Bool
turns present a i = not (eqb (placed present a i) a)

-- u has each word as it was when the sets were last right, and what is known, as w has them
pub record Kept (w u : List ℕ) : Type 0 where
  pub long : length u ≡ length w
  pub same_before : (k : ℕ) → k < moved_at → before u k ≡ before w k
  pub same_known : (m : ℕ) → known_at ≤ m → m < rewired_at → get_or u m 0 ≡ get_or w m 0
  pub few_moved : Few (get_or w moved_at 0) → Few (get_or u moved_at 0)

-- u is w, where word k counts as touched
pub record Marked (k : ℕ) (w u : List ℕ) : Type 0 where
  pub kept : Kept w u
  pub same : (m : ℕ) → m < moved_at → get_or u m 0 ≡ get_or w m 0
  pub is_touched : touched u k ≡ true

-- u is w with i put into word k, or taken out
pub record Turned (k i : ℕ) (present : Bool) (w u : List ℕ) : Type 0 where
  pub kept : Kept w u
  pub word : get_or u k 0 ≡ placed present (get_or w k 0) i
  pub others : (m : ℕ) → m < moved_at → (m ≡ k → ⊥) → get_or u m 0 ≡ get_or w m 0

-- what a mutation does to the words: a principal's changes, or that of the taken role
abbrev pub Noted : Kind → ℕ → ℕ → List ℕ → List ℕ → Type 0
Noted addMember r x w u = Turned (holders_at + x) r true w u
Noted deleteMember r x w u = Turned (holders_at + x) r false w u
Noted addTaken r x w u = Turned x r true w u
Noted deleteTaken r x w u = Turned x r false w u

-- t is the policy s after a mutation, and the words follow it
pub record Made (k : Kind) (r x : ℕ) (s w t u : List ℕ) : Type 0 where
  pub made : t ≡ mutate s k r x
  pub noted : Noted k r x w u

-- the kinds of a member that comes or goes, and of a taken role
abbrev pub member_kind : Bool → Kind
member_kind present = cond present addMember deleteMember

abbrev pub taken_kind : Bool → Kind
taken_kind present = cond present addTaken deleteTaken

-- r has those of a set whose word, from `from` on, is another than the one that is kept of it
pub record Changed (from set : ℕ) (w : List ℕ) (r : ℕ) : Type 0 where
  pub inside : (j : ℕ) → has r j ≡ true → has set j ≡ true
  pub same : (j : ℕ) → has set j ≡ true → has r j ≡ false → get_or w (before_at + (from + j)) 0 ≡ get_or w (from + j) 0

-- u is w with no word touched; what is known was known, and then no role was rewired
pub record Cleared (rewired : ℕ) (w u : List ℕ) : Type 0 where
  pub long : length u ≡ length w
  pub same : (k : ℕ) → k < moved_at → get_or u k 0 ≡ get_or w k 0
  pub untouched : Untouched u
  pub known : (j : ℕ) → has (get_or u known_at 0) j ≡ true → (has (get_or w known_at 0) j ≡ true) × (rewired ≡ 0)
  pub above : (j : ℕ) → j < role_limit → get_or u (above_at + j) 0 ≡ get_or w (above_at + j) 0

-- the same, where no word of a taken role is another than it was. Among some are all principals whose word is another than it
-- was, and all that are in the set of a role whose word is
pub record Sifted (atoms w u : List ℕ) (some : ℕ) : Type 0 where
  pub long : length u ≡ length w
  pub same : (k : ℕ) → k < moved_at → get_or u k 0 ≡ get_or w k 0
  pub untouched : Untouched u
  pub known : (j : ℕ) → has (get_or u known_at 0) j ≡ true → (has (get_or w known_at 0) j ≡ true) × ((k : ℕ) → k < role_limit → before w k ≡ get_or w k 0)
  pub above : (j : ℕ) → j < role_limit → get_or u (above_at + j) 0 ≡ get_or w (above_at + j) 0
  pub few : Few some
  pub holders : (p : ℕ) → p < principal_limit → has some p ≡ false → before w (holders_at + p) ≡ get_or w (holders_at + p) 0
  pub takers : (p k : ℕ) → k < role_limit → has (get_or atoms k 0) p ≡ true → has some p ≡ false → before w k ≡ get_or w k 0

-- the sets of the roles are those of the policy, but for the places of some principals
unfoldable pub Fresh : List ℕ → List ℕ → ℕ → Type 0
Fresh s atoms some = (r p : ℕ) → r < roles s → has some p ≡ false → has (get_or atoms r 0) p ≡ has (meaning s r) p

-- of the first n roles P has those in `start` and all from which one of them is reached, by the words f of those that take in
pub record Column (n : ℕ) (f : ℕ → ℕ) (start : ℕ) (P : ℕ → Bool) : Type 0 where
  pub starts : (i : ℕ) → i < n → has start i ≡ true → P i ≡ true
  pub closed : (j i : ℕ) → j < n → i < n → P j ≡ true → has (f j) i ≡ true → P i ≡ true
  pub least : (H : ℕ → Bool) → ((i : ℕ) → i < n → has start i ≡ true → H i ≡ true) → ((j i : ℕ) → j < n → i < n → H j ≡ true → has (f j) i ≡ true → H i ≡ true)
      → (i : ℕ) → i < n → P i ≡ true → H i ≡ true

-- the roles that a principal is in, by their sets
abbrev pub places : List ℕ → ℕ → ℕ → Bool
places atoms p r = has (get_or atoms r 0) p

-- one of the roles in `start` is reached from each of r, by the words f of those that take in, and what takes in one of r is in r
pub record Upward (f : ℕ → ℕ) (start r : ℕ) : Type 0 where
  pub closed : (j i : ℕ) → j < role_limit → has r j ≡ true → has (f j) i ≡ true → has r i ≡ true
  pub least : (H : ℕ → Bool) → ((i : ℕ) → has start i ≡ true → H i ≡ true) → ((j i : ℕ) → j < role_limit → H j ≡ true → has (f j) i ≡ true → H i ≡ true)
      → (i : ℕ) → has r i ≡ true → H i ≡ true

-- r is the roles in `start` and all from which one of them is reached
pub record Reaching (f : ℕ → ℕ) (start r : ℕ) : Type 0 where
  pub starts : (i : ℕ) → has start i ≡ true → has r i ≡ true
  pub upward : Upward f start r

-- the words w have of each role in a set the roles from which it is reached
unfoldable pub Known : (ℕ → ℕ) → List ℕ → ℕ → Type 0
Known f w set = (j : ℕ) → j < role_limit → has set j ≡ true → Reaching f (single j) (get_or w (above_at + j) 0)

-- u is w, but for what is known of roles, and that is right
pub record Learnt (w u : List ℕ) : Type 0 where
  pub long : length u ≡ length w
  pub same : (k : ℕ) → k < known_at → get_or u k 0 ≡ get_or w k 0
  pub behind : (k : ℕ) → rewired_at ≤ k → get_or u k 0 ≡ get_or w k 0
  pub known : Known (current u) u (get_or u known_at 0)

-- an accepted policy with its words the other way round, the sets of its atoms, where a role has those that its words gave it
-- when the sets were last right, and what was known of roles then
pub record Tracked (s atoms w : List ℕ) : Type 0 where
  pub fixed_live : FixedLive s atoms
  pub mirrored : Mirrored s w
  pub small : (r : ℕ) → r < roles s → Few (get_or atoms r 0)
  pub column : (p : ℕ) → p < principal_limit → Column (roles s) (before w) (before w (holders_at + p)) (places atoms p)
  pub known : Known (before w) w (get_or w known_at 0)
