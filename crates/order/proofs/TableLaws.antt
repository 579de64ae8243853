-- A law for each return of table.rt: where an atom's row is, and what a row holds.
use mathlib.Core.Path.{◌≡◌, refl, sym, ◌∙◌}
use Prim.Native.Nat.{ℕ, ◌+◌, ◌<◌, ◌≤◌}
use mathlib.Core.Bool.{Bool, ◌||◌}
use native.Mathlib.Omega.{arith}
use native.Mathlib.Nat.{zero-add}
use borrow.Author.Tests.{lt-ltb, le-ltb}
use Rattle.model.specs.Limits.{role_limit}
use Rattle.model.specs.Sets.{has}
use Rattle.model.specs.Policy.{reading, trust}
use Rattle.model.specs.Syntax.{of, everyone, Atom, role, fixed}
use Rattle.model.specs.Fits.{AtomFits}
use Rattle.model.proofs.Sets.{has_or}
use Rattle.program.specs.declared.codes.Atom.{Atom as CodeAtom}
use Rattle.program.specs.declared.codes.Atom.TheVariants.{Role, Viewers, Trusters, Everyone}
use Rattle.program.specs.Codes.{model_atom}
use Rattle.order.specs.declared.table.Row.{Row}
use Rattle.order.specs.Table.{viewers_at, trusters_at, everyone_at, Table, row_of, slot, index_of, row_in, holds, union}

-- where an atom's row is
module _ (from j n : ℕ) (e : n ≡ j) where
  pub slot_in : n < role_limit → from + n ≡ slot from j
  unfolding slot
  slot_in h = rw (← e) (simp (lt-ltb _ _ h))

  pub slot_out : role_limit ≤ n → everyone_at ≡ slot from j
  unfolding slot
  slot_out h = rw (← e) (simp (le-ltb _ _ h))

pub ruleset slots = (slot_in, slot_out)

module _ (a : CodeAtom) (j r : ℕ) where
  pub role_index : a ≡ Role j → r ≡ slot 0 j → r ≡ index_of a
  role_index e h = rw e h

  pub viewers_index : a ≡ Viewers j → r ≡ slot viewers_at j → r ≡ index_of a
  viewers_index e h = rw e h

  pub trusters_index : a ≡ Trusters j → r ≡ slot trusters_at j → r ≡ index_of a
  trusters_index e h = rw e h

pub ruleset indexes = (role_index, viewers_index, trusters_index)

pub index_is : (n : ℕ) (a : CodeAtom) → n ≤ role_limit → AtomFits n (model_atom a) → index_of a ≡ row_of (model_atom a)
index_is n (Role j) few l = sym (slot_in 0 j j refl (omega arith)) ∙ zero-add j
index_is n (Viewers j) few l = sym (slot_in viewers_at j j refl (omega arith))
index_is n (Trusters j) few l = sym (slot_in trusters_at j j refl (omega arith))
index_is n Everyone few l = refl

pub row_of_lem : (t : Table) (a : CodeAtom) (k : ℕ) (r : Row) → k ≡ index_of a → r ≡ row_in t k → r ≡ row_in t (index_of a)
row_of_lem t a k r e h = rw (← e) h

-- membership of an atom, whose role the code has as the wider number n
module _ (r : Row) (a : CodeAtom) (j n : ℕ) (b : Bool) (e : n ≡ j) where
  pub in_roles : a ≡ Role j → b ≡ has r.roles n → b ≡ holds r (model_atom a)
  in_roles f h = rw (f, ← e) h

  pub in_viewers : a ≡ Viewers j → b ≡ has r.viewers n → b ≡ holds r (model_atom a)
  in_viewers f h = rw (f, ← e) h

  pub in_trusters : a ≡ Trusters j → b ≡ has r.trusters n → b ≡ holds r (model_atom a)
  in_trusters f h = rw (f, ← e) h

pub ruleset memberships = (in_roles, in_viewers, in_trusters)

-- what both rows hold together
pub holds_union : (r l : Row) (a : Atom) → holds (union r l) a ≡ holds r a || holds l a
holds_union r l (role j) = has_or r.roles l.roles j
holds_union r l (fixed (of reading j)) = has_or r.viewers l.viewers j
holds_union r l (fixed (of trust j)) = has_or r.trusters l.trusters j
holds_union r l (fixed everyone) = refl
