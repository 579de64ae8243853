-- What is open to a group under policies with one fixed part: rows are by the fixed part, meanings of hidden rows are hidden (F1) and those of open rows depend on open rows only (F2), so policies that agree on open rows show the same atoms and decide queries on open rows alike.
use Prim.Native.Nat.{ℕ, ◌<◌, ◌≤◌}
use mathlib.Core.Path.{◌≡◌, refl, sym, ◌∙◌}
use mathlib.Core.Logic.{◌⊎◌, inl, inr, ⊎_elim}
use mathlib.Core.List.Memᴰ
use mathlib.Core.List.{List, [], ◌∷◌, Memᴰ}
use mathlib.Core.Bool.{Bool, true, false, not, ◌&&◌, ◌||◌}
use Rattle.model.specs.Limits.{variable_limit}
use Rattle.model.specs.Policy.{Side, roles, watchers, Accepted, SameFixed, Agree}
use Rattle.model.specs.Meaning.{meaning}
use Rattle.model.specs.Syntax.{Fixed, of, everyone, Atom, role, fixed, Query}
use Rattle.model.specs.Program.{variables}
use Rattle.model.specs.Order.{fixed_set, includes, AtMost, same, chain, asked, own, lies}
use Rattle.model.specs.Flow.{atom_label, query_label, list_label}
use Rattle.model.specs.Atoms.{atom_set, holds}
use Rattle.model.specs.Run.{Update, broken}
use Rattle.model.specs.Claim.{sees, Gains}
use Rattle.model.proofs.Truth.{backwards, true_or_false}
use Rattle.model.specs.Fits.{Each}
use Rattle.model.proofs.Fixed.{fixed_refl, fixed_sym, fixed_trans, agree_refl, agree_sym, agree_trans}
use Rattle.model.proofs.Meaning.{meaning_watched, meaning_seen}
use Rattle.model.proofs.Beyond.{watchers_same}
use Rattle.model.proofs.Order.{JoinAtMost}
use Rattle.model.proofs.Semantics.{holds_same, AllHold, join_hides}
use Rattle.model.proofs.Sees.{clash, sees_more, no_gain_hides}

-- a side, a group, a program, and an accepted policy whose fixed part all policies here share
pub record Setting : Type 0 where
  pub side : Side
  pub group : ℕ
  pub program : List ℕ
  pub base : List ℕ
  pub base_accepted : Accepted base
  pub few : variables program ≤ variable_limit

-- an atom is open under a policy when the group sees its set
unfoldable pub is_open : Setting → List ℕ → Atom → Bool
is_open S s a = sees S.group (atom_set s a)

-- a role's row is open when its watchers on the side are
abbrev pub row_open : Setting → ℕ → Bool
row_open S r = is_open S S.base (fixed (of S.side r))

-- an accepted policy with the fixed part
pub record Good (S : Setting) (s : List ℕ) : Type 0 where
  pub accepted : Accepted s
  pub same_base : SameFixed S.base s

-- two of them that agree on open rows
pub record Near (S : Setting) (a b : List ℕ) : Type 0 where
  pub good1 : Good S a
  pub good2 : Good S b
  pub rows : (r : ℕ) → r < roles S.base → row_open S r ≡ true → Agree a b r

pub near_refl : {S : Setting} {a : List ℕ} → Good S a → Near S a a
near_refl {a} g = record { good1 = g; good2 = g; rows = λ r l o. agree_refl a r }

pub near_sym : {S : Setting} {a b : List ℕ} → Near S a b → Near S b a
near_sym n = record { good1 = n.good2; good2 = n.good1; rows = λ r l o. agree_sym (n.rows r l o) }

pub near_trans : {S : Setting} {a b c : List ℕ} → Near S a b → Near S b c → Near S a c
near_trans n k = record { good1 = n.good1; good2 = k.good2; rows = λ r l o. agree_trans (n.rows r l o) (k.rows r l o) }

-- the base is such a policy
pub good_base : (S : Setting) → Good S S.base
good_base S = record { accepted = S.base_accepted; same_base = fixed_refl S.base }

set_fixed : {S : Setting} {s : List ℕ} → Good S s → (f : Fixed) → fixed_set S.base f ≡ fixed_set s f
unfolding fixed_set
set_fixed {S} {s} g (of side j) = watchers_same S.base s S.base_accepted g.accepted g.same_base side j
set_fixed g everyone = rw g.same_base.same_principals

-- fixed atoms are open by the fixed part
pub open_fixed : {S : Setting} {s : List ℕ} → Good S s → (f : Fixed) → is_open S s (fixed f) ≡ is_open S S.base (fixed f)
unfolding is_open atom_set
open_fixed g f = rw (set_fixed g f)

-- F1 as it is used: where a row is hidden its role is
hidden_role : {S : Setting} {s : List ℕ} → Good S s → (r : ℕ) → row_open S r ≡ false → is_open S s (role r) ≡ false
unfolding is_open atom_set fixed_set
hidden_role {S} {s} g r h = backwards _ _ (sees_more S.group (meaning s r) (watchers S.side s r) (meaning_watched S.side s g.accepted r)) (open_fixed g (of S.side r) ∙ h)

-- F2 as it is used: where a row is open its role's meaning is the same in both
pub meaning_same : {S : Setting} {a b : List ℕ} → Near S a b → (r : ℕ) → row_open S r ≡ true → meaning a r ≡ meaning b r
unfolding is_open atom_set fixed_set
meaning_same {S} {a} {b} n r o = meaning_seen S.side (sees S.group) (sees_more S.group) a b n.good1.accepted
    (fixed_trans (fixed_sym n.good1.same_base) n.good2.same_base)
    (λ j k h. n.rows j (rw n.good1.same_base.same_roles k) (sym (open_fixed n.good1 (of S.side j)) ∙ h))
    r (open_fixed n.good1 (of S.side r) ∙ o)

-- the same atoms are open
pub open_same : {S : Setting} {a b : List ℕ} → Near S a b → (x : Atom) → is_open S a x ≡ is_open S b x
unfolding is_open atom_set
open_same {S} n (role r) = ⊎_elim
    (λ o. rw (meaning_same n r o))
    (λ h. hidden_role n.good1 r h ∙ sym (hidden_role n.good2 r h))
    (true_or_false (row_open S r))
open_same n (fixed f) = open_fixed n.good1 f ∙ sym (open_fixed n.good2 f)

-- F4: an update without a gain opens no hidden atom
pub hidden_stays_hidden : {S : Setting} (u : Update) → Good S u.before → Good S u.after → (Gains S.group u → ⊥)
    → (x : Atom) → is_open S u.after x ≡ true → is_open S u.before x ≡ true
unfolding is_open atom_set
hidden_stays_hidden {S} u g h none (role r) o = no_gain_hides S.group u none r o
hidden_stays_hidden u g h none (fixed f) o = open_fixed g f ∙ sym (open_fixed h f) ∙ o

-- a join is open when each of its atoms is, and hidden when one of them is
abbrev pub Open : Setting → List ℕ → List Atom → Type 0
Open S s join = (a : Atom) → Memᴰ a join → is_open S s a ≡ true

pub record Hidden (S : Setting) (s : List ℕ) (join : List Atom) : Type 0 where
  pub atom : Atom
  pub among : Memᴰ atom join
  pub is_hidden : is_open S s atom ≡ false

pub hidden_or_open : (S : Setting) (s : List ℕ) (join : List Atom) → Hidden S s join ⊎ Open S s join
hidden_or_open S s [] = inr (λ a i. absurd (Memᴰ.not-nil i))
hidden_or_open S s (x ∷ join) = ⊎_elim
    (λ o. ⊎_elim
    (λ h. inl record { atom = h.atom; among = Memᴰ.tail h.among; is_hidden = h.is_hidden })
    (λ f. inr (λ b i. ⊎_elim (λ e. rw e o) (λ j. f b j) (Memᴰ.cases_cons i)))
    (hidden_or_open S s join))
    (λ h. inl record { atom = x; among = Memᴰ.head refl; is_hidden = h })
    (true_or_false (is_open S s x))

pub hidden_near : {S : Setting} {a b : List ℕ} {join : List Atom} → Near S a b → Hidden S a join → Hidden S b join
hidden_near n h = record { atom = h.atom; among = h.among; is_hidden = sym (open_same n h.atom) ∙ h.is_hidden }

-- a join with all atoms of a hidden one is hidden
pub hidden_in : {S : Setting} {s : List ℕ} {j k : List Atom} → Each (λ a. Memᴰ a k) j → Hidden S s j → Hidden S s k
hidden_in f h = record { atom = h.atom; among = f h.atom h.among; is_hidden = h.is_hidden }

-- the order is by the fixed part
at_most_fixed : {S : Setting} {s : List ℕ} {known : List Query} {a b : Atom} → Good S s → AtMost S.base known a b → AtMost s known a b
unfolding includes
at_most_fixed g same = same
at_most_fixed g (chain d e) = chain (at_most_fixed g d) (at_most_fixed g e)
at_most_fixed g (asked m) = asked m
at_most_fixed g own = own
at_most_fixed g (lies {f = f} {g = h} i) = lies (rw (set_fixed g f, set_fixed g h) at i)

-- O2: what a hidden join is at most is hidden
pub hides : {S : Setting} {s : List ℕ} {known : List Query} {join : List Atom} {b : Atom} → Good S s → AllHold s known → JoinAtMost S.base known join b → Hidden S s join → is_open S s b ≡ false
unfolding is_open
hides {S} {s} {known} {join} {b} g hold below h =
    join_hides (sees S.group) (sees_more S.group) s g.accepted known hold join b (λ x m. at_most_fixed g (below x m)) h.atom h.among h.is_hidden

-- a query whose label is open, under whatever policy, is decided alike
atom_same : {S : Setting} {s a b : List ℕ} → Good S s → Near S a b → (x : Atom) → Open S s (atom_label S.side x) → atom_set a x ≡ atom_set b x
unfolding atom_set atom_label
atom_same {S} g n (role r) o = meaning_same n r (sym (open_fixed g (of S.side r)) ∙ o (fixed (of S.side r)) (Memᴰ.head refl))
atom_same g n (fixed f) o = sym (set_fixed n.good1 f) ∙ set_fixed n.good2 f

pub query_same : {S : Setting} {s a b : List ℕ} → Good S s → Near S a b → (q : Query) → Open S s (query_label S.side q) → holds a q ≡ holds b q
unfolding query_label
query_same {S} {s} {a} {b} g n q o = holds_same a b q
    (atom_same g n q.first (λ x i. o x (search Memᴰ.append_left)))
    (atom_same g n q.second (λ x i. o x (search Memᴰ.append_right)))

-- so two updates break alike a listed query, where the list's label is open
pub broken_same : {S : Setting} {s a b c d : List ℕ} (listed : List Query) → Good S s → Near S a b → Near S c d → Open S s (list_label S.side listed) → broken listed a c ≡ broken listed b d
unfolding broken list_label
broken_same [] g n k o = refl
broken_same {S} (q ∷ qs) g n k o = cc (
  query_same g n q (λ x i. o x (Memᴰ.append_left _ i)),
  query_same g k q (λ x i. o x (Memᴰ.append_left _ i)),
  broken_same qs g n k (λ x i. o x (Memᴰ.append_right (query_label S.side q) i)),
)

-- a listed query that held still holds where none is broken
pub unbroken : (listed : List Query) (s t : List ℕ) → broken listed s t ≡ false → (q : Query) → Memᴰ q listed → holds s q ≡ true → holds t q ≡ true
unfolding broken
unbroken [] s t b q i h = absurd (Memᴰ.not-nil i)
unbroken (k ∷ listed) s t b q i h = ⊎_elim
    (λ e. rw e (still (holds s k) (holds t k) _ (rw e at h) b))
    (λ j. unbroken listed s t (later (holds s k && not (holds t k)) _ b) q j h)
    (Memᴰ.cases_cons i)
  where
    still : (x y z : Bool) → x ≡ true → ((x && not y) || z) ≡ false → y ≡ true
    still true true z e f = refl
    still true false z e f = clash refl f
    still false y z e f = clash e refl

    later : (x y : Bool) → (x || y) ≡ false → y ≡ false
    later true y f = clash refl f
    later false y f = f
