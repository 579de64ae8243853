-- To have the same fixed part, and to agree on a role, are equivalences; what the policy file allows depends on the fixed part only.
use Prim.Native.Nat.{ℕ, ◌<◌}
use mathlib.Core.Path.{◌≡◌, sym, ◌∙◌}
use mathlib.Core.List.{List}
use Rattle.model.specs.Policy.{roles, Side, reading, trust, watchers, may_take, may_hold, SameFixed, Agree}
use Rattle.model.proofs.Taking.{may_take_same}

pub fixed_refl : (a : List ℕ) → SameFixed a a
fixed_refl a = search

pub fixed_sym : {a b : List ℕ} → SameFixed a b → SameFixed b a
fixed_sym {a} {b} f =
    let row : (i : ℕ) → i < roles b → i < roles a = λ i l. rw f.same_roles l in
    search (sym, row, f.same_owner, f.same_name, f.same_viewers, f.same_trusters)

pub fixed_trans : {a b c : List ℕ} → SameFixed a b → SameFixed b c → SameFixed a c
fixed_trans {a} {b} {c} f g =
    let row : (i : ℕ) → i < roles a → i < roles b = λ i l. rw f.same_roles at l in
    search (◌∙◌, row, f.same_owner, f.same_name, f.same_viewers, f.same_trusters, g.same_owner, g.same_name, g.same_viewers, g.same_trusters)

pub agree_refl : (a : List ℕ) (i : ℕ) → Agree a a i
agree_refl a i = search

pub agree_sym : {a b : List ℕ} {i : ℕ} → Agree a b i → Agree b a i
agree_sym e = search sym

pub agree_trans : {a b c : List ℕ} {i : ℕ} → Agree a b i → Agree b c i → Agree a c i
agree_trans e f = search ◌∙◌

-- watchers are of the fixed part
pub watchers_fixed : {a b : List ℕ} → SameFixed a b → (side : Side) (i : ℕ) → i < roles a → watchers side a i ≡ watchers side b i
unfolding watchers
watchers_fixed f reading i h = f.same_viewers i h
watchers_fixed f trust i h = f.same_trusters i h

pub may_take_fixed : {a b : List ℕ} → SameFixed a b → (i j : ℕ) → i < roles a → j < roles a → may_take a i j ≡ may_take b i j
may_take_fixed {a} {b} f i j h k = may_take_same a b i j (λ side. watchers_fixed f side i h) (λ side. watchers_fixed f side j k)

-- who watches decides who may be a member
pub may_hold_same : (a b : List ℕ) (i p : ℕ) → ((side : Side) → watchers side a i ≡ watchers side b i) → may_hold a i p ≡ may_hold b i p
unfolding watchers may_hold
may_hold_same a b i p e = rw (e reading, e trust)

pub may_hold_fixed : {a b : List ℕ} → SameFixed a b → (i p : ℕ) → i < roles a → may_hold a i p ≡ may_hold b i p
may_hold_fixed {a} {b} f i p h = may_hold_same a b i p (λ side. watchers_fixed f side i h)
