-- Where roles are within their limit an atom is what its byte reads as, so a query whose two bytes stand in a list is itself in that list.
use Prim.Native.Nat.{ℕ, ◌+◌, ◌≤◌}
use native.Mathlib.Nat.{add-sub_cancel_left}
use native.Mathlib.Omega.{arith}
use mathlib.Core.Path.{◌≡◌, refl, sym, subst}
use mathlib.Core.Logic.{⊎_elim}
use mathlib.Core.List.Memᴰ
use mathlib.Core.List.{List, [], ◌∷◌, Memᴰ}
use mathlib.Core.Bool.{true, false≢true}
use lib.Dec.{eqb}
use borrow.Author.Tests.{eqb-true, lt-ltb, le-ltb}
use Rattle.model.specs.Limits.{role_limit}
use Rattle.model.specs.Policy.{reading, trust}
use Rattle.model.specs.Syntax.{of, everyone, Atom, role, fixed, Query, atom_byte, same_query}
use Rattle.model.specs.Program.{got, atom_at}
use Rattle.model.specs.Fits.{Each, AtomFits, QueryFits}
use Rattle.model.specs.Flow.{listed_in}
use Rattle.model.proofs.Truth.{either, both}

pub each_cons : {A : Type 0} {Q : A → Type 0} {x : A} {xs : List A} → Q x → Each Q xs → Each Q (x ∷ xs)
each_cons {Q} {x} h f y m = ⊎_elim (λ e. subst Q (sym e) h) (f y) (Memᴰ.cases_cons m)

module _ (R : ℕ) (few : R ≤ role_limit) where
  atom_read : (a : Atom) → AtomFits R a → atom_at R 0 (atom_byte a) 0 ≡ got a 0
  unfolding atom_at
  atom_read (role j) h = rw (lt-ltb j 0x40 (omega arith), lt-ltb j R h)
  atom_read (fixed (of reading j)) h =
      rw (le-ltb (0x40 + j) 0x40 (omega arith), lt-ltb (0x40 + j) 0x80 (omega arith), add-sub_cancel_left, lt-ltb j R h)
  atom_read (fixed (of trust j)) h =
      rw (le-ltb (0x80 + j) 0x40 (omega arith), le-ltb (0x80 + j) 0x80 (omega arith), lt-ltb (0x80 + j) 0xc0 (omega arith), add-sub_cancel_left 0x80 j, lt-ltb j R h)
  atom_read (fixed everyone) h = refl

  same_atom : (a b : Atom) → AtomFits R a → AtomFits R b → eqb (atom_byte a) (atom_byte b) ≡ true → a ≡ b
  same_atom a b h k e = cc (atom_read a h, atom_read b k, eqb-true (atom_byte a) (atom_byte b) e)

  same_query_lem : (q k : Query) → QueryFits R q → QueryFits R k → same_query q k ≡ true → q ≡ k
  same_query_lem q k h l e =
      let (f, g) = both (eqb (atom_byte q.first) (atom_byte k.first)) (eqb (atom_byte q.second) (atom_byte k.second)) e in
      λ i. record { first = same_atom q.first k.first h.0 l.0 f i; second = same_atom q.second k.second h.1 l.1 g i }

  pub listed_member : (q : Query) (listed : List Query) → QueryFits R q → Each (QueryFits R) listed → listed_in q listed ≡ true → Memᴰ q listed
  unfolding listed_in
  listed_member q [] f g h = absurd (false≢true h)
  listed_member q (k ∷ ks) f g h = ⊎_elim
      (λ e. Memᴰ.head (same_query_lem q k f (g k (Memᴰ.head refl)) e))
      (λ e. Memᴰ.tail (listed_member q ks f (λ x m. g x (Memᴰ.tail m)) e))
      (either (same_query q k) (listed_in q ks) h)
