-- An accepted update keeps the policy accepted with its fixed part, does the same to a row that agrees in two policies, and leaves all rows but those that its transaction mutates; so if these are hidden it changes no open row (F3).
use Prim.Native.Nat.{ℕ, ◌<◌}
use native.Mathlib.Omega.{arith}
use mathlib.Core.Path.{◌≡◌, refl}
use mathlib.Core.List.Memᴰ
use mathlib.Core.List.{List, [], ◌∷◌}
use mathlib.Core.Bool.{true, false}
use Rattle.model.specs.Limits.{role_limit}
use Rattle.model.specs.Sets.{has}
use Rattle.model.specs.Policy.{Agree}
use Rattle.model.specs.Mutation.{mutate, Mutation}
use Rattle.model.specs.Run.{mutate_all}
use Rattle.model.proofs.Accepted.{accepted_facts}
use Rattle.model.specs.Fits.{Each}
use Rattle.model.proofs.Fixed.{agree_refl, agree_trans}
use Rattle.model.proofs.FlowParts.{Mutates, mutates_role, mutates_operand, mutates_accepted, mutates_fixed}
use Rattle.model.proofs.Mutation.{mutate_other, mutate_agrees}
use Rattle.model.proofs.Openness.{Setting, row_open, Good, Near}
use Rattle.model.proofs.Sees.{clash}

-- a mutation that acceptance let through, of a policy with the fixed part
module _ {S : Setting} {rs : ℕ} {m : Mutation} (h : Mutates S.base rs m) where
  mutation_good : {s : List ℕ} → Good S s → Good S (mutate s m.kind m.role m.operand)
  mutation_good {s} g = record {
    accepted = mutates_accepted h g.same_base g.accepted;
    same_base = mutates_fixed h g.same_base;
  }

  mutation_same : {a b : List ℕ} → Good S a → Good S b → (r : ℕ) → Agree a b r → Agree (mutate a m.kind m.role m.operand) (mutate b m.kind m.role m.operand) r
  mutation_same {a} {b} f g = mutate_agrees a b m.kind m.role m.operand
      f.accepted (mutates_role h f.same_base) (mutates_operand h f.same_base)
      g.accepted (mutates_role h g.same_base) (mutates_operand h g.same_base)

-- a row that the transaction does not mutate ends unchanged
update_other : {base : List ℕ} {rs : ℕ} (ms : List Mutation) (s : List ℕ) → Each (Mutates base rs) ms → (r : ℕ) → (has rs r ≡ true → ⊥) → Agree s (mutate_all s ms) r
unfolding mutate_all
update_other [] s h r n = agree_refl s r
update_other (m ∷ ms) s h r n = agree_trans
    (mutate_other s m.kind m.role m.operand r (λ e. n (rw e (h m (Memᴰ.head refl)).named)))
    (update_other ms (mutate s m.kind m.role m.operand) (λ k i. h k (Memᴰ.tail i)) r n)

module _ {S : Setting} {rs : ℕ} where
  pub update_good : (ms : List Mutation) {s : List ℕ} → Each (Mutates S.base rs) ms → Good S s → Good S (mutate_all s ms)
  unfolding mutate_all
  update_good [] h g = g
  update_good (m ∷ ms) h g = update_good ms (λ k i. h k (Memᴰ.tail i)) (mutation_good (h m (Memᴰ.head refl)) g)

  -- two policies that agree on a row still do after the same update
  update_same : (ms : List Mutation) {a b : List ℕ} → Each (Mutates S.base rs) ms → Good S a → Good S b → (r : ℕ) → Agree a b r → Agree (mutate_all a ms) (mutate_all b ms) r
  unfolding mutate_all
  update_same [] h f g r e = e
  update_same (m ∷ ms) h f g r e =
      let k = h m (Memᴰ.head refl) in
      update_same ms (λ n i. h n (Memᴰ.tail i)) (mutation_good k f) (mutation_good k g) r (mutation_same k f g r e)

  pub update_near : (ms : List Mutation) {a b : List ℕ} → Each (Mutates S.base rs) ms → Near S a b → Near S (mutate_all a ms) (mutate_all b ms)
  update_near ms h n = record {
    good1 = update_good ms h n.good1;
    good2 = update_good ms h n.good2;
    rows = λ r l o. update_same ms h n.good1 n.good2 r (n.rows r l o);
  }

-- the roles of a set have hidden rows
abbrev pub RowsHidden : Setting → ℕ → Type 0
RowsHidden S rs = (r : ℕ) → r < role_limit → has rs r ≡ true → row_open S r ≡ false

-- F3: where all mutated rows are hidden, no open row changes
pub hidden_update : {S : Setting} {rs : ℕ} (ms : List Mutation) {s : List ℕ} → Each (Mutates S.base rs) ms → Good S s → RowsHidden S rs → Near S s (mutate_all s ms)
hidden_update {S} ms {s} h g hidden = record {
  good1 = g;
  good2 = update_good ms h g;
  rows = λ r l o. update_other ms s h r (λ i. clash o (hidden r (omega (arith, (accepted_facts S.base S.base_accepted).roles_fit)) i));
}
