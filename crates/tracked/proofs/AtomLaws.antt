-- A law for each return of atoms.rt.
use mathlib.Core.Path.{◌≡◌, sym, ap, ◌∙◌}
use Prim.Native.Nat.{ℕ, ◌+◌, ◌-◌, ◌^◌, ◌<◌, ◌≤◌}
use mathlib.Core.Logic.{⊎_elim}
use mathlib.Core.List.{List, ◌++◌}
use mathlib.Core.Bool.{Bool}
use native.Mathlib.Omega.{arith}
use mir.Val.{Fits}
use mir.Syntax.{w32}
use lib.Bits.{bit_and}
use lib.Dec.{eqb}
use lib.Pow.{pow_pos, pow_mono}
use lib.ListN.{length, get_or, set, take, drop, length-set, length-append, length-drop, get_or-append}
use lib.Seq.{get_or-set_same, get_or-set_other, get_or-append-add, get_or-drop, length-take-le}
use Rattle.model.specs.Limits.{principal_limit, role_limit}
use Rattle.model.specs.Policy.{roles, principals, viewers, trusters, watchers, reading, trust, Accepted, SameFixed}
use Rattle.model.specs.Bytes.{byte}
use Rattle.model.specs.Sets.{within}
use Rattle.model.specs.Meaning.{meanings, meaning}
use Rattle.model.specs.Syntax.{Fixed, of, everyone, Atom, role, fixed, Query, atom_byte}
use Rattle.model.specs.Fits.{AtomFits, QueryFits}
use Rattle.model.specs.Program.{got, read_query}
use Rattle.model.specs.Atoms.{atom_set, holds}
use Rattle.model.specs.Order.{fixed_set}
use Rattle.model.proofs.Accepted.{accepted_facts}
use Rattle.model.proofs.Below.{last_or}
use Rattle.model.proofs.Rows.{accepted_row}
use Rattle.model.proofs.Fixed.{watchers_fixed}
use Rattle.model.proofs.Reading.{query_fits}
use Rattle.model.proofs.Standing.{query_parts}
use Rattle.shared.specs.Words.{single}
use Rattle.shared.proofs.SetLaws.{single_is}
use Rattle.meaning.proofs.MeaningLaws.{meanings_length}
use Rattle.tracked.specs.Live.{atom_words, Live, FixedLive, Watched}

-- viewers and trusters, role by role
module _ (s : List ℕ) where
  pub watched_none : (w : List ℕ) → length w ≡ atom_words → Watched s 0 w
  watched_none w l = record { long = l; views = λ j h. absurd (omega arith); trusts = λ j h. absurd (omega arith) }

  module _ (n : ℕ) (w : List ℕ) (h : Watched s n w) where
    pub watched_done : (all : ℕ) → n ≤ all → all ≤ n → Watched s all w
    watched_done all l k = let e : all ≡ n = omega arith in rw e h

    pub watched_more : (all v t : ℕ) → n < all → all ≤ role_limit → v ≡ viewers s n → t ≡ trusters s n → Watched s (n + 1) (set (set w (0x40 + n) v) (0x80 + n) t)
    watched_more all v t l few e f = record {
      long = simp length-set h.long;
      views = λ j k. get_or-set_other (set w (0x40 + n) v) (0x80 + n) (0x40 + j) t 0 (omega arith) ∙ ⊎_elim
          (λ q. rw q (get_or-set_same w (0x40 + n) v 0 (omega (arith, h.long)) ∙ e))
          (λ q. get_or-set_other w (0x40 + n) (0x40 + j) v 0 (omega arith) ∙ h.views j q) (last_or n j (omega arith));
      trusts = λ j k. ⊎_elim
          (λ q. rw q (get_or-set_same (set w (0x40 + n) v) (0x80 + n) t 0 (rw length-set (omega (arith, h.long))) ∙ f))
          (λ q. get_or-set_other (set w (0x40 + n) v) (0x80 + n) (0x80 + j) t 0 (omega arith) ∙ get_or-set_other w (0x40 + n) (0x80 + j) v 0 (omega arith) ∙ h.trusts j q) (last_or n j (omega arith));
    }

pub ruleset watchings = (watched_none, watched_more, watched_done, accepted_row)

-- all of n principals
module _ (n x : ℕ) (few : n ≤ principal_limit) (e : x ≡ single n) where
  all_are : x ≡ 2 ^ n
  all_are = e ∙ single_is n (omega arith)

  pub all_some : 1 ≤ x
  all_some = omega (arith, all_are, pow_pos n)

  pub all_fit : Fits w32 (x - 1)
  all_fit = let k : 2 ^ n ≤ 2 ^ 32 = pow_mono few in record { fits = omega (arith, all_are) }

  pub all_below : x - 1 ≡ 2 ^ n - 1
  all_below = rw all_are

pub ruleset alls = (all_some, all_fit, all_below)

-- how many roles and principals there are, read as b and wider as n
module _ (s : List ℕ) (ok : Accepted s) (b n : ℕ) (e : n ≡ b) where
  pub roles_few : b ≡ roles s → n ≤ role_limit
  roles_few d = omega (arith, (accepted_facts s ok).roles_fit)

  pub principals_few : b ≡ principals s → n ≤ principal_limit
  principals_few d = omega (arith, (accepted_facts s ok).principals_fit)

pub fixed_loaded : (s w : List ℕ) (n b p c x : ℕ) → Accepted s → n ≡ b → b ≡ roles s → Watched s n w → p ≡ c → c ≡ principals s → x ≡ 2 ^ p - 1
    → FixedLive s (set w 0xff x)
unfolding fixed_set watchers
fixed_loaded s w n b p c x ok e d h f g k = record { accepted = ok; long = simp length-set h.long; sets = sets }
  where
    few : roles s ≤ role_limit
    few = (accepted_facts s ok).roles_fit

    sets : (f : Fixed) → AtomFits (roles s) (fixed f) → get_or (set w 0xff x) (atom_byte (fixed f)) 0 ≡ fixed_set s f
    sets (of reading j) l = get_or-set_other w 0xff (0x40 + j) x 0 (omega (arith, few)) ∙ h.views j (omega (arith, few))
    sets (of trust j) l = get_or-set_other w 0xff (0x80 + j) x 0 (omega (arith, few)) ∙ h.trusts j (omega (arith, few))
    sets everyone l = get_or-set_same w 0xff x 0 (omega (arith, h.long)) ∙ k ∙ rw (f, g)

pub ruleset loads = (roles_few, principals_few, fixed_loaded)

-- behind the first n words nothing changes where these are replaced
kept : (m w : List ℕ) (n i : ℕ) → length m ≡ n → n ≤ i → get_or (m ++ drop n w) i 0 ≡ get_or w i 0
kept m w n i e l =
    let k : i ≡ length m + (i - n) = omega arith in
    let j : n + (i - n) ≡ i = omega arith in
    ap (λ (x : ℕ). get_or (m ++ drop n w) x 0) k ∙ get_or-append-add m (drop n w) (i - n) 0 ∙ get_or-drop n w (i - n) 0 ∙ ap (λ (x : ℕ). get_or w x 0) j

-- viewers, trusters and everyone stand behind the roles
pub behind : (n : ℕ) → n ≤ role_limit → (f : Fixed) → n ≤ atom_byte (fixed f)
behind n l (of reading j) = omega arith
behind n l (of trust j) = omega arith
behind n l everyone = omega arith

-- the meanings, in front of what the fixed part gives
pub refreshed : (s w m : List ℕ) (b n : ℕ) → FixedLive s w → b ≡ roles s → n ≡ b → m ≡ meanings s → Live s (m ++ drop n w)
unfolding atom_set meaning
refreshed s w m b n h d e k = record { accepted = h.accepted; long = long; sets = sets }
  where
    few : roles s ≤ role_limit
    few = (accepted_facts s h.accepted).roles_fit

    many : length m ≡ roles s
    many = ap length k ∙ meanings_length s

    same : n ≡ roles s
    same = e ∙ d

    long : length (m ++ drop n w) ≡ atom_words
    long = simp (length-append, length-drop) (omega (arith, h.long, many, same, few))

    sets : (a : Atom) → AtomFits (roles s) a → get_or (m ++ drop n w) (atom_byte a) 0 ≡ atom_set s a
    sets (role j) l = get_or-append m (drop n w) 0 j (omega (arith, many)) ∙ ap (λ (x : List ℕ). get_or x j 0) k
    sets (fixed f) l = kept m w n (atom_byte (fixed f)) (many ∙ sym same) (behind n (omega (arith, same, few)) f) ∙ h.sets f l

-- the first words, as many as there are roles
module _ (s w : List ℕ) (b n : ℕ) (h : FixedLive s w) (d : b ≡ roles s) (e : n ≡ b) where
  pub front_inside : n ≤ length w
  front_inside = omega (arith, (accepted_facts s h.accepted).roles_fit, h.long)

  pub front_count : n ≡ length (take n w)
  front_count = sym (length-take-le n w front_inside)

  pub front_long : length (take n w) ≡ roles s
  front_long = sym front_count ∙ e ∙ d

pub ruleset fronts = (refreshed, front_inside, front_count, front_long)

-- the sets of all atoms are those of viewers, trusters and everyone too
pub fixed_of : (s w : List ℕ) → Live s w → FixedLive s w
unfolding atom_set
fixed_of s w h = record { accepted = h.accepted; long = h.long; sets = λ f l. h.sets (fixed f) l }

-- what the fixed part gives stays right for every policy that has the same
pub fixed_stays : (s t w : List ℕ) → FixedLive s w → SameFixed s t → Accepted t → FixedLive t w
unfolding fixed_set
fixed_stays s t w h f ok = record { accepted = ok; long = h.long; sets = sets }
  where
    sets : (a : Fixed) → AtomFits (roles t) (fixed a) → get_or w (atom_byte (fixed a)) 0 ≡ fixed_set t a
    sets (of side j) l = let k : j < roles s = rw f.same_roles l in h.sets (of side j) k ∙ watchers_fixed f side j k
    sets everyone l = h.sets everyone tt ∙ rw f.same_principals

-- a query by the words of its atoms, whose bytes are wider as a and b
pub words_tested : (w : List ℕ) (first second a b : ℕ) → a ≡ first → b ≡ second
    → eqb (bit_and (get_or w b 0) (get_or w a 0)) (get_or w b 0) ≡ within (get_or w second 0) (get_or w first 0)
words_tested w first second a b e f = rw (e, f)

module _ (s w : List ℕ) (h : Live s w) where
  pub live_holds : (q : Query) → QueryFits (roles s) q → within (get_or w (atom_byte q.second) 0) (get_or w (atom_byte q.first) 0) ≡ holds s q
  unfolding holds
  live_holds q f = rw (h.sets q.first f.0, h.sets q.second f.1)

  -- the same of a query that was read: a and b are its two bytes
  pub query_decided : (p : List ℕ) (at a b : ℕ) (r : Bool) (q : Query) (end : ℕ) → read_query p (roles s) at ≡ got q end → a ≡ byte p at → b ≡ byte p (at + 1)
      → r ≡ within (get_or w b 0) (get_or w a 0) → r ≡ holds s q
  query_decided p at a b r q end read e f g =
      let u = query_parts p (roles s) at read in
      let first : a ≡ atom_byte q.first = e ∙ sym u.first_byte in
      let second : b ≡ atom_byte q.second = f ∙ sym u.second_byte in
      g ∙ rw (first, second) (live_holds q (query_fits p (roles s) at read))
