-- Along the order sets only shrink: by an asked query because it holds, from watchers to their role because whoever a role means watches it (F1), by an inclusion because it is one.
use Prim.Native.Nat.{ℕ}
use mathlib.Core.Path.{◌≡◌}
use mathlib.Core.List.{List, Memᴰ}
use mathlib.Core.Bool.{Bool, true, false}
use Rattle.model.specs.Sets.{has}
use Rattle.model.specs.Policy.{Accepted}
use Rattle.model.specs.Syntax.{Atom, Query}
use Rattle.model.specs.Order.{fixed_set, includes, AtMost, same, chain, asked, own, lies}
use Rattle.model.specs.Atoms.{atom_set, holds}
use Rattle.model.proofs.Sets.{within_has}
use Rattle.model.proofs.Meaning.{Monotone, meaning_watched}
use Rattle.model.proofs.Truth.{backwards}
use Rattle.model.proofs.Order.{JoinAtMost}

-- whether a query holds depends on its two sets only
pub holds_same : (a b : List ℕ) (q : Query) → atom_set a q.first ≡ atom_set b q.first → atom_set a q.second ≡ atom_set b q.second → holds a q ≡ holds b q
unfolding holds
holds_same a b q e f = rw (e, f)

-- every known query holds
abbrev pub AllHold : List ℕ → List Query → Type 0
AllHold s known = (q : Query) → Memᴰ q known → holds s q ≡ true

-- O1: of two atoms in the order the second's set lies in the first's
pub order_sound : (s : List ℕ) → Accepted s → (known : List Query) → AllHold s known
    → (a b : Atom) → AtMost s known a b → (p : ℕ) → has (atom_set s b) p ≡ true → has (atom_set s a) p ≡ true
unfolding holds includes atom_set fixed_set
order_sound s ok known hold a b same p h = h
order_sound s ok known hold a c (chain {b = b} d e) p h = order_sound s ok known hold a b d p (order_sound s ok known hold b c e p h)
order_sound s ok known hold a b (asked {q = q} m) p h = within_has (atom_set s q.second) (atom_set s q.first) p (hold q m) h
order_sound s ok known hold a b (own {side = side} {j = j}) p h = meaning_watched side s ok j p h
order_sound s ok known hold a b (lies {f = f} {g = g} i) p h = within_has (fixed_set s g) (fixed_set s f) p i h

-- O2: where a join is at most an atom that is seen, each atom of the join is seen; so one hidden atom in the join hides it
module _ (see : ℕ → Bool) (grows : Monotone see) (s : List ℕ) (ok : Accepted s) (known : List Query) (hold : AllHold s known)
    (join : List Atom) (b : Atom) (below : JoinAtMost s known join b) (a : Atom) (m : Memᴰ a join) where
  pub join_seen : see (atom_set s b) ≡ true → see (atom_set s a) ≡ true
  join_seen = grows (atom_set s b) (atom_set s a) (order_sound s ok known hold a b (below a m))

  pub join_hides : see (atom_set s a) ≡ false → see (atom_set s b) ≡ false
  join_hides = backwards (see (atom_set s b)) (see (atom_set s a)) join_seen
