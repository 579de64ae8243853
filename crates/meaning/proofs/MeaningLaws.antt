-- How many meanings there are, and a law for each return of asking for one.
use mathlib.Core.Path.{◌≡◌, sym, ◌∙◌}
use Prim.Native.Nat.{ℕ, zero, suc, ◌<◌, ◌≤◌}
use mathlib.Core.List.{List}
use lib.ListN.{length}
use borrow.Author.Tests.{lt-ltb, le-ltb, eq-eqb, ne_eqb}
use Rattle.model.specs.Policy.{roles, members, takes, Accepted, policy_number}
use Rattle.model.specs.Meaning.{rounds, column, meanings, meaning, answer, meaning_of}
use Rattle.model.proofs.Least.{length_steps, column_length}

rounds_length : (t m : List ℕ) → length m ≡ length t → (n : ℕ) → length (rounds t m n) ≡ length t
unfolding rounds
rounds_length t m l zero = l
rounds_length t m l (suc n) = length_steps t (rounds t m n) (length t) ∙ rounds_length t m l n

-- there is a meaning for each role
pub meanings_length : (s : List ℕ) → length (meanings s) ≡ roles s
unfolding meanings
meanings_length s =
    let c = column_length (takes s) (roles s) in
    rounds_length (column (takes s) (roles s)) (column (members s) (roles s)) (column_length (members s) (roles s) ∙ sym c) (roles s) ∙ c

-- asking for a meaning: k is the policy's number
module _ (s : List ℕ) (r : ℕ) where
  pub asked_refused : (k : ℕ) → k ≡ policy_number s → (k ≡ 0 → ⊥) → answer k 0 ≡ meaning_of s r
  unfolding meaning_of
  asked_refused k p h = let g : policy_number s ≡ 0 → ⊥ = λ e. h (p ∙ e) in rw p (simp (ne_eqb _ _ g))

  module _ (p : 0 ≡ policy_number s) where
    pub asked_accepted : Accepted s
    asked_accepted = sym p

    pub asked_none : roles s ≤ r → answer 7 0 ≡ meaning_of s r
    unfolding meaning_of
    asked_none h = simp (eq-eqb _ _ (sym p), le-ltb _ _ h)

    pub asked_found : r < roles s → (x : ℕ) → x ≡ meaning s r → answer 0 x ≡ meaning_of s r
    unfolding meaning_of
    asked_found h x e = rw e (simp (eq-eqb _ _ (sym p), lt-ltb _ _ h))

pub ruleset asked = (asked_refused, asked_accepted, asked_none, asked_found)
