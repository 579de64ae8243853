-- What the end of a reading says of readings that are made of it, whatever is read.
use mathlib.Core.Path.{◌≡◌, refl, ◌∙◌}
use Prim.Native.Nat.{ℕ, zero, suc, ◌+◌, ◌-◌, ◌<◌, ◌≤◌}
use mathlib.Core.List.{List, ◌∷◌}
use mathlib.Core.Bool.{Bool, true, false, cond}
use native.Mathlib.Omega.{arith}
use native.Mathlib.Numerals.{sub-one}
use lib.ListN.{length}
use borrow.Author.Tests.{lt-ltb, le-ltb}
use Rattle.model.specs.Bytes.{byte}
use Rattle.model.specs.Program.{Read as Reading, got, bad, and_then, read_byte, read_many}
use Rattle.program.specs.Answer.{Reached, reached, stopped, end_of}

-- a reading that ended at n is followed by the next; a refusal is the answer of the whole
module _ {A B : Type 0} where
  pub then_reached : (p : Reading A) (f : A → ℕ → Reading B) {n : ℕ} {r : Reached} → reached n ≡ end_of p → ((x : A) → r ≡ end_of (f x n)) → r ≡ end_of (and_then p f)
  unfolding end_of and_then
  then_reached (got x m) f {n = n} e k = let q : m ≡ n = cc in rw q (k x)
  then_reached (bad b c) f e k = cc

  pub then_stopped : (p : Reading A) (f : A → ℕ → Reading B) {b c : ℕ} → stopped b c ≡ end_of p → stopped b c ≡ end_of (and_then p f)
  unfolding end_of and_then
  then_stopped (got x m) f e = cc
  then_stopped (bad k l) f e = e

  pub then_last : (p : Reading A) (f : A → B) → end_of p ≡ end_of (and_then p (λ x n. got (f x) n))
  unfolding end_of and_then
  then_last (got x n) f = refl
  then_last (bad k l) f = refl

  -- what is made of it may hold the end
  pub then_end : (p : Reading A) (f : A → ℕ → B) → end_of p ≡ end_of (and_then p (λ x n. got (f x n) n))
  unfolding end_of and_then
  then_end (got x n) f = refl
  then_end (bad k l) f = refl

  -- readings that go on alike end alike
  pub then_same : {C : Type 0} (p : Reading A) (f : A → ℕ → Reading B) (g : A → ℕ → Reading C) → ((x : A) (n : ℕ) → end_of (f x n) ≡ end_of (g x n)) → end_of (and_then p f) ≡ end_of (and_then p g)
  unfolding end_of and_then
  then_same (got x n) f g h = h x n
  then_same (bad k l) f g h = refl

  pub pick_same : (b : Bool) (p : Reading A) (q : Reading B) (k place : ℕ) → end_of p ≡ end_of q → end_of (cond b p (bad k place)) ≡ end_of (cond b q (bad k place))
  unfolding end_of
  pick_same true p q k place h = h
  pick_same false p q k place h = refl

-- the byte that a reading begins with
module _ {B : Type 0} (s : List ℕ) (at : ℕ) (f : ℕ → ℕ → Reading B) where
  pub byte_there : at < length s → and_then (read_byte s at) f ≡ f (byte s at) (at + 1)
  unfolding read_byte and_then
  byte_there h = simp (lt-ltb _ _ h)

  pub byte_missing : length s ≤ at → stopped 10 (length s) ≡ end_of (and_then (read_byte s at) f)
  unfolding read_byte and_then end_of
  byte_missing h = simp (le-ltb _ _ h)

-- a loop over readings: nothing left, one more
module _ {A : Type 0} (sub : ℕ → Reading A) where
  pub many_done : (i p : ℕ) (r : Reached) → end_of (read_many sub i p) ≡ r → i ≤ 0 → reached p ≡ r
  unfolding read_many end_of
  many_done zero p r e h = e
  many_done (suc i) p r e h = absurd (omega arith)

  pub many_next : (i p q : ℕ) (r : Reached) → end_of (read_many sub i p) ≡ r → 0 < i → reached q ≡ end_of (sub p) → end_of (read_many sub (i - 1) q) ≡ r
  unfolding read_many
  many_next zero p q r e h a = absurd (omega arith)
  many_next (suc i) p q r e h a =
      rw sub-one (then_reached (sub p) (λ x mid. and_then (read_many sub i mid) (λ xs end. got (x ∷ xs) end)) a (λ x. then_last (read_many sub i q) (λ xs. x ∷ xs)) ∙ e)
