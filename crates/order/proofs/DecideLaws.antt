-- A law for each return of decide.rt: the words lie in the row's words exactly when each atom of the join is at most the row's atom.
use mathlib.Core.Path.{◌≡◌, sym, ap, ◌∙◌}
use Prim.Native.Nat.{ℕ}
use mathlib.Core.List.{List, Memᴰ}
use mathlib.Core.Bool.{Bool, true, false, ◌&&◌}
use borrow.Author.Tests.{not-true, not-false}
use Rattle.model.specs.Sets.{within}
use Rattle.model.specs.Policy.{Side, roles}
use Rattle.model.specs.Syntax.{of, everyone, Atom, role, fixed, Query}
use Rattle.model.specs.Fits.{AtomFits}
use Rattle.model.specs.Order.{at_most, join_at_most}
use Rattle.model.proofs.Truth.{same_truth, both, and_both}
use Rattle.model.proofs.Sets.{within_has, has_within}
use Rattle.model.proofs.Accepted.{accepted_facts}
use Rattle.model.proofs.Order.{test_derivable, derivable_test, join_derivable, derivable_join}
use Rattle.program.specs.declared.codes.Atom.{Atom as CodeAtom}
use Rattle.program.specs.Codes.{model_atom}
use Rattle.order.specs.declared.table.Row.{Row}
use Rattle.shared.specs.declared.side.Side.{Side as CodeSide}
use Rattle.shared.specs.Sides.{model_side}
use Rattle.order.specs.Table.{Table, row_of, index_of, row_in, watched, holds, Knows, Joins, JoinBelow, Decides}
use Rattle.order.proofs.TableLaws.{index_is}

-- a join is at most b exactly when each of its atoms is
module _ (s : List ℕ) (known : List Query) (join : List Atom) (b : Atom) where
  each_below : join_at_most s known join b ≡ true → (a : Atom) → Memᴰ a join → at_most s known a b ≡ true
  each_below h a m = derivable_test s known a b (join_derivable s known join b h a m)

  below_each : ((a : Atom) → Memᴰ a join → at_most s known a b ≡ true) → join_at_most s known join b ≡ true
  below_each f = derivable_join s known join b (λ a m. test_derivable s known a b (f a m))

module _ (s : List ℕ) (known : List Query) (t : Table) (knows : Knows s known t) (side : Side) (join : List Atom) (rs ws : ℕ) (joins : Joins side join rs ws)
    (small : JoinBelow (roles s) join) (b : Atom) (below : AtomFits (roles s) b) (r : Row) (e : r ≡ row_in t (row_of b)) where
  -- the row decides
  in_row : (a : Atom) → Memᴰ a join → holds r a ≡ at_most s known a b
  in_row a m = ap (λ (x : Row). holds x a) e ∙ knows.decides a b (small a m) below

  row_each : within rs r.roles ≡ true → within ws (watched side r) ≡ true → (a : Atom) → Memᴰ a join → at_most s known a b ≡ true
  row_each h k (role j) m = sym (in_row (role j) m) ∙ within_has rs r.roles j h (joins.role_in j m)
  row_each h k (fixed (of side' j)) m =
      let (same, inside) = joins.fixed_in side' j m in
      sym (in_row (fixed (of side' j)) m) ∙ rw same (within_has ws (watched side r) j k inside)
  row_each h k (fixed everyone) m = sym (in_row (fixed everyone) m)

  each_role : join_at_most s known join b ≡ true → within rs r.roles ≡ true
  each_role h = has_within rs r.roles (λ j k. let m = joins.role_out j k in in_row (role j) m ∙ each_below s known join b h (role j) m)

  each_watched : join_at_most s known join b ≡ true → within ws (watched side r) ≡ true
  each_watched h = has_within ws (watched side r) (λ j k. let m = joins.fixed_out j k in in_row (fixed (of side j)) m ∙ each_below s known join b h (fixed (of side j)) m)

  row_decides : within rs r.roles && within ws (watched side r) ≡ join_at_most s known join b
  row_decides =
      same_truth _ _ (λ h. let (p, q) = both (within rs r.roles) (within ws (watched side r)) h in below_each s known join b (row_each p q))
      (λ h. and_both _ _ (each_role h) (each_watched h))

-- the target's row was read, and b says whether the join's roles lie in it
module _ (t : Table) (o : CodeAtom) (rs ws : ℕ) (r : Row) (b : Bool) (side : CodeSide) (d : r ≡ row_in t (index_of o)) (g : b ≡ within rs r.roles) where
  pub decided : Decides t (model_side side) rs ws (model_atom o) (b && within ws (watched (model_side side) r))
  unfolding Decides
  decided s known join ok knows joins small below =
      rw g (row_decides s known t knows (model_side side) join rs ws joins small (model_atom o) below r (d ∙ rw (index_is (roles s) o (accepted_facts s ok).roles_fit below)))

  pub roles_outside : b ≡ false → Decides t (model_side side) rs ws (model_atom o) false
  roles_outside h = rw h at decided

  pub watched_decide : b ≡ true → (w : ℕ) (c : Bool) → w ≡ watched (model_side side) r → c ≡ within ws w → Decides t (model_side side) rs ws (model_atom o) c
  watched_decide h w c f i = rw (i, f) (rw h at decided)

pub ruleset decisions = (roles_outside, watched_decide, not-true, not-false)
