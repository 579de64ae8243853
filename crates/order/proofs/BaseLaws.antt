-- A law for each return and each turn of base.rt: each row that was written holds what the fixed part puts at most its atom.
use mathlib.Core.Path.{◌≡◌, refl, sym, ap, subst, ◌∙◌}
use Prim.Native.Nat.{ℕ, zero, suc, ◌+◌, ◌-◌, ◌^◌, ◌<◌, ◌≤◌}
use mathlib.Core.List.{List, []}
use mathlib.Core.Logic.{◌⊎◌, inl, inr, ⊎_elim}
use mathlib.Core.Bool.{Bool, true, false, cond, false≢true}
use native.Mathlib.Omega.{arith}
use native.Mathlib.Numerals.{add-one}
use native.Mathlib.Nat.{mod-eq_of_lt}
use lib.Pow.{pow_pos, pow_mono}
use lib.Bits.{and_mask}
use lib.ListN.{length, get_or, set, length-set}
use lib.Seq.{get_or-set_same, get_or-set_other}
use borrow.Author.Tests.{eq-eqb}
use Rattle.model.specs.Limits.{head_bytes, principal_limit, role_limit}
use Rattle.model.specs.Sets.{has, within, with}
use Rattle.model.specs.Policy.{Side, reading, trust, principals, roles, viewers, trusters, watchers, Accepted}
use Rattle.model.specs.Syntax.{Fixed, of, everyone, Atom, role, fixed}
use Rattle.model.specs.Order.{fixed_set, includes, base, at_most}
use Rattle.model.proofs.Below.{last_or}
use Rattle.model.proofs.Meaning.{watchers_below}
use Rattle.model.proofs.Sets.{has_zero, has_with, has_with_same, with_has, has_power}
use Rattle.model.specs.Fits.{AtomFits}
use Rattle.model.proofs.Accepted.{accepted_facts}
use Rattle.model.proofs.Rows.{accepted_row}
use Rattle.model.proofs.Truth.{same_truth}
use Rattle.shared.specs.Words.{single}
use Rattle.shared.proofs.SetLaws.{single_is}
use Rattle.order.specs.declared.table.Row.{Row}
use Rattle.order.specs.declared.base.Words.{Words}
use Rattle.order.specs.declared.base.Watchers.{Watchers}
use Rattle.order.specs.declared.base.WatcherRows.{WatcherRows}
use Rattle.order.specs.Table.{viewers_at, trusters_at, everyone_at, Table, table_rows, row_of, row_in, empty_row, holds, union, with_role, row_has, Knows}
use Rattle.order.specs.Base.{word, words_at, watchers_of, Loaded, WordsOf, holders, fixed_row, RoleRows, RowsOf, Based, Filled}
use Rattle.order.proofs.TableLaws.{holds_union}

-- words loaded role by role
module _ (s : List ℕ) where
  pub loaded_none : (ws : Words) → ws.count ≡ roles s → length ws.viewers ≡ role_limit → length ws.trusters ≡ role_limit → Loaded s 0 ws
  loaded_none ws e v w = record { roles_are = e; viewers_room = v; trusters_room = w; right = λ i l. absurd (omega arith) }

  pub loaded_more : (j x y : ℕ) (ws : Words) → Accepted s → Loaded s j ws → j < ws.count → x ≡ viewers s j → y ≡ trusters s j
      → Loaded s (j + 1) (record { viewers = set ws.viewers j x; trusters = set ws.trusters j y; count = ws.count })
  loaded_more j x y ws ok h l e f = record {
    roles_are = h.roles_are;
    viewers_room = simp length-set h.viewers_room;
    trusters_room = simp length-set h.trusters_room;
    right = λ i m. go i (last_or j i (rw add-one at m));
  }
    where
      few : j < role_limit
      few = omega (arith, h.roles_are, (accepted_facts s ok).roles_fit)

      both : {v v' w w' : ℕ} → v ≡ v' → w ≡ w' → ◌≡◌ {A = Watchers} (record { viewers = v; trusters = w }) (record { viewers = v'; trusters = w' })
      both p q = rw (p, q)

      go : (i : ℕ) → (i ≡ j) ⊎ (i < j) → ◌≡◌ {A = Watchers} (record { viewers = get_or (set ws.viewers j x) i 0; trusters = get_or (set ws.trusters j y) i 0 }) (watchers_of s i)
      go i (inl q) = rw q (both (get_or-set_same ws.viewers j x 0 (omega (arith, few, h.viewers_room)) ∙ e) (get_or-set_same ws.trusters j y 0 (omega (arith, few, h.trusters_room)) ∙ f))
      go i (inr m) = both (get_or-set_other ws.viewers j i x 0 (λ q. omega arith)) (get_or-set_other ws.trusters j i y 0 (λ q. omega arith)) ∙ h.right i m

pub ruleset loads = (loaded_none, loaded_more)

-- the holders of a set, role by role
pub holders_none : (side : Side) (ws : Words) (low : ℕ) → 0 ≡ holders side ws low 0
unfolding holders
holders_none side ws low = refl

pub holders_more : (side : Side) (ws : Words) (low j found x : ℕ) → found ≡ holders side ws low j
    → x ≡ cond (within low (word side (words_at ws j))) (with found j) found → x ≡ holders side ws low (j + 1)
unfolding holders
holders_more side ws low j found x e h = rw (add-one j, ← e) h

pub ruleset holder_laws = (holders_none, holders_more)

-- all of n principals
pub single_some : (n x : ℕ) → n < 64 → x ≡ single n → 1 ≤ x
single_some n x l e = omega (arith, single_is n l, pow_pos n)

pub all_below : (n x : ℕ) → n < 64 → x ≡ single n → x - 1 ≡ 2 ^ n - 1
all_below n x l e = rw (e, single_is n l)

pub all_fit : (n x : ℕ) → n ≤ principal_limit → x ≡ single n → x - 1 < 2 ^ 32
all_fit n x l e = omega (arith, single_is n, pow_mono l)

pub ruleset principal_sets = (single_some, all_below, all_fit)

-- what base.rt needs of an accepted policy: its head and its rows are there, and its roles and principals are few
module _ (s : List ℕ) (ok : Accepted s) where
  pub head_there : head_bytes ≤ length s
  head_there = (accepted_facts s ok).headed

  pub principals_few : (n : ℕ) → n ≡ principals s → n ≤ principal_limit
  principals_few n e = omega (arith, (accepted_facts s ok).principals_fit)

  pub roles_few : (n : ℕ) → n ≡ roles s → n ≤ role_limit
  roles_few n e = omega (arith, (accepted_facts s ok).roles_fit)

-- a role is among the holders exactly when the set lies in its word
module _ (side : Side) (ws : Words) (low : ℕ) where
  abbrev Lies : ℕ → Type 0
  Lies i = within low (word side (words_at ws i)) ≡ true

  has_next : (x n i : ℕ) (b : Bool) → within low (word side (words_at ws n)) ≡ b → (has x i ≡ true → (i < n) × Lies i)
      → has (cond b (with x n) x) i ≡ true → (i < suc n) × Lies i
  has_next x n i true d f h = ⊎_elim (λ e. (omega arith, rw e d)) (λ k. let (l, q) = f k in (omega arith, q)) (with_has x n i h)
  has_next x n i false d f h = let (l, q) = f h in (omega arith, q)

  has_holders : (n i : ℕ) → has (holders side ws low n) i ≡ true → (i < n) × Lies i
  unfolding holders
  has_holders zero i h = absurd (let z : ◌≡◌ {A = Bool} false true = sym (has_zero i) ∙ h in false≢true z)
  has_holders (suc n) i h = has_next (holders side ws low n) n i (within low (word side (words_at ws n))) refl (has_holders n i) h

  next_has : (x n i : ℕ) (b : Bool) → has x i ≡ true → has (cond b (with x n) x) i ≡ true
  next_has x n i true h = has_with x n i h
  next_has x n i false h = h

  next_same : (x n i : ℕ) (b : Bool) → b ≡ true → i ≡ n → has (cond b (with x n) x) i ≡ true
  next_same x n i b d e = rw (d, e) (has_with_same x n)

  holders_has : (n i : ℕ) → i < n → Lies i → has (holders side ws low n) i ≡ true
  unfolding holders
  holders_has zero i l d = elim l [ ]
  holders_has (suc n) i l d =
      ⊎_elim (λ e. next_same (holders side ws low n) n i (within low (word side (words_at ws n))) (rw e at d) e)
      (λ k. next_has (holders side ws low n) n i (within low (word side (words_at ws n))) (holders_has n i k d)) (last_or n i l)

  holders_are : (n i : ℕ) → i < n → has (holders side ws low n) i ≡ within low (word side (words_at ws i))
  holders_are n i l = same_truth _ _ (λ h. (has_holders n i h).1) (holders_has n i l)

with_fixed : (r : Row) (j : ℕ) (f : Fixed) → holds (with_role r j) (fixed f) ≡ holds r (fixed f)
with_fixed r j (of reading i) = refl
with_fixed r j (of trust i) = refl
with_fixed r j everyone = refl

-- rows as the fixed part has them, by its words
module _ (s : List ℕ) (ok : Accepted s) where
  fixed_below : (g : Fixed) → AtomFits (roles s) (fixed g) → fixed_set s g < 2 ^ principals s
  unfolding fixed_set
  fixed_below (of side j) l = watchers_below s ok j l side
  fixed_below everyone l = omega (arith, pow_pos (principals s))

  -- everyone is at most every atom
  everyone_first : (g : Fixed) → AtomFits (roles s) (fixed g) → includes s everyone g ≡ true
  unfolding includes fixed_set
  everyone_first g l = eq-eqb _ _ (and_mask (fixed_set s g) (principals s) ∙ mod-eq_of_lt (fixed_below g l))

  module _ (ws : Words) (words : WordsOf s ws) where
    abbrev row_of_set : Fixed → Row
    row_of_set g = fixed_row ws (fixed_set s g)

    -- the words of a role of the policy
    right_word : (side : Side) (i : ℕ) → i < roles s → word side (words_at ws i) ≡ watchers side s i
    unfolding watchers
    right_word reading i k = ap (word reading) (words.right i k)
    right_word trust i k = ap (word trust) (words.right i k)

    held : (side : Side) (g : Fixed) (i : ℕ) → i < roles s → has (holders side ws (fixed_set s g) ws.count) i ≡ includes s (of side i) g
    unfolding includes fixed_set
    held side g i k =
        holders_are side ws (fixed_set s g) ws.count i (rw (← words.roles_are) at k) ∙ ap (within (fixed_set s g)) (right_word side i k)

    row_fixed : (g : Fixed) → AtomFits (roles s) (fixed g) → (a : Atom) → AtomFits (roles s) a → holds (row_of_set g) a ≡ base s a (fixed g)
    unfolding base
    row_fixed g l (role i) k = has_zero i
    row_fixed g l (fixed (of reading i)) k = held reading g i k
    row_fixed g l (fixed (of trust i)) k = held trust g i k
    row_fixed g l (fixed everyone) k = sym (everyone_first g l)

    row_role : (j : ℕ) → j < roles s → (a : Atom) → AtomFits (roles s) a
        → holds (with_role (union (row_of_set (of reading j)) (row_of_set (of trust j))) j) a ≡ base s a (role j)
    unfolding base
    row_role j l (role i) k = has_power j i
    row_role j l (fixed f) k =
        with_fixed (union (row_of_set (of reading j)) (row_of_set (of trust j))) j f
        ∙ holds_union (row_of_set (of reading j)) (row_of_set (of trust j)) (fixed f)
        ∙ rw (row_fixed (of reading j) l (fixed f) k, row_fixed (of trust j) l (fixed f) k)

-- three rows written one after the other
pub role_written : (rows : WatcherRows) (m : Row) (j : ℕ) (t : Table) → length t ≡ table_rows → j < role_limit → m ≡ with_role (union rows.viewers rows.trusters) j
    → RoleRows rows j t (set (set (set t j m) (viewers_at + j) rows.viewers) (trusters_at + j) rows.trusters)
role_written rows m j t long l g =
    let x = rows.viewers in
    let y = rows.trusters in
    let t₁ = set t j m in
    let t₂ = set t₁ (viewers_at + j) x in
    let long₁ : length t₁ ≡ table_rows = simp length-set long in
    let long₂ : length t₂ ≡ table_rows = simp length-set long in
    record {
      long = simp length-set long;
      viewers_row = get_or-set_other t₂ (trusters_at + j) (viewers_at + j) y empty_row (λ o. omega arith) ∙ get_or-set_same t₁ (viewers_at + j) x empty_row (omega arith);
      trusters_row = get_or-set_same t₂ (trusters_at + j) y empty_row (omega arith);
      role_row =
          get_or-set_other t₂ (trusters_at + j) j y empty_row (λ o. omega arith) ∙ get_or-set_other t₁ (viewers_at + j) j x empty_row (λ o. omega arith)
          ∙ get_or-set_same t j m empty_row (omega arith) ∙ g;
      others = λ z n₁ n₂ n₃.
          get_or-set_other t₂ (trusters_at + j) z y empty_row n₃ ∙ get_or-set_other t₁ (viewers_at + j) z x empty_row n₂ ∙ get_or-set_other t j z m empty_row n₁;
    }

-- the rows of a role's viewers and trusters, two or one
module _ (ws : Words) (w : Watchers) (x : Row) (p : x ≡ fixed_row ws w.viewers) where
  pub rows_two : (y : Row) → y ≡ fixed_row ws w.trusters → RowsOf ws w (record { viewers = x; trusters = y })
  rows_two y q = record { by_viewers = p; by_trusters = q }

  pub rows_one : w.viewers ≡ w.trusters → RowsOf ws w (record { viewers = x; trusters = x })
  rows_one e = record { by_viewers = p; by_trusters = p ∙ ap (fixed_row ws) e }

pub ruleset set_rows = (rows_one, rows_two)

-- everyone's row, then the rows of role j, its viewers and its trusters
module _ (s : List ℕ) (ok : Accepted s) (ws : Words) (words : WordsOf s ws) where
  pub based_none : (t : Table) (p low : ℕ) (r : Row) → length t ≡ table_rows → p ≡ principals s → low ≡ 2 ^ p - 1 → r ≡ fixed_row ws low
      → Based s 0 (set t everyone_at r)
  unfolding fixed_set
  based_none t p low r l q d g = record { long = simp length-set l; right = right }
    where
      right : (a b : Atom) → AtomFits (roles s) a → AtomFits 0 b → row_has (set t everyone_at r) (row_of b) a ≡ base s a b
      right a (role j) k m = absurd (omega arith)
      right a (fixed (of side j)) k m = absurd (omega arith)
      right a (fixed everyone) k m =
          ap (λ (x : Row). holds x a) (get_or-set_same t everyone_at r empty_row (omega arith) ∙ g ∙ ap (fixed_row ws) (d ∙ rw q)) ∙ row_fixed s ok ws words everyone tt a k

  module _ (t u : Table) (j : ℕ) (l : j < roles s) (b : Based s j t) (x : WatcherRows) (o : RowsOf ws (words_at ws j) x) (h : RoleRows x j t u) where
    few : j < role_limit
    few = omega (arith, (accepted_facts s ok).roles_fit)

    new_fixed : (side : Side) → row_in u (row_of (fixed (of side j))) ≡ fixed_row ws (fixed_set s (of side j))
    unfolding fixed_set
    new_fixed reading = h.viewers_row ∙ o.by_viewers ∙ ap (fixed_row ws) (right_word s ok ws words reading j l)
    new_fixed trust = h.trusters_row ∙ o.by_trusters ∙ ap (fixed_row ws) (right_word s ok ws words trust j l)

    new_role : row_in u j ≡ with_role (union (fixed_row ws (fixed_set s (of reading j))) (fixed_row ws (fixed_set s (of trust j)))) j
    new_role = h.role_row ∙ ap (λ (r : Row). with_role r j) (both (sym h.viewers_row ∙ new_fixed reading) (sym h.trusters_row ∙ new_fixed trust))
      where
        both : {r r' o o' : Row} → r ≡ r' → o ≡ o' → union r o ≡ union r' o'
        both a a' = rw (a, a')

    old : (o : Atom) → AtomFits j o → row_in u (row_of o) ≡ row_in t (row_of o)
    old (role o) a = h.others o (λ r. omega arith) (λ r. omega arith) (λ r. omega (arith, few))
    old (fixed (of reading o)) a = h.others (viewers_at + o) (λ r. omega (arith, few)) (λ r. omega arith) (λ r. omega (arith, few))
    old (fixed (of trust o)) a = h.others (trusters_at + o) (λ r. omega (arith, few)) (λ r. omega (arith, few)) (λ r. omega arith)
    old (fixed everyone) a = h.others everyone_at (λ r. omega (arith, few)) (λ r. omega (arith, few)) (λ r. omega (arith, few))

    based_more : Based s (j + 1) u
    based_more = record { long = h.long; right = right }
      where
        stays : (a o : Atom) → AtomFits (roles s) a → AtomFits j o → row_has u (row_of o) a ≡ base s a o
        stays a o ha ho = ap (λ (r : Row). holds r a) (old o ho) ∙ b.right a o ha ho

        right : (a o : Atom) → AtomFits (roles s) a → AtomFits (j + 1) o → row_has u (row_of o) a ≡ base s a o
        right a (role o) ha ho =
            ⊎_elim (λ e'. subst (λ (o : ℕ). row_has u o a ≡ base s a (role o)) (sym e') (ap (λ (r : Row). holds r a) new_role ∙ row_role s ok ws words j l a ha))
            (stays a (role o) ha) (last_or j o (rw add-one at ho))
        right a (fixed (of side o)) ha ho =
            ⊎_elim (λ e'. subst (λ (o : ℕ). row_has u (row_of (fixed (of side o))) a ≡ base s a (fixed (of side o))) (sym e') (ap (λ (r : Row). holds r a) (new_fixed side) ∙ row_fixed s ok ws words (of side j) l a ha))
            (stays a (fixed (of side o)) ha) (last_or j o (rw add-one at ho))
        right a (fixed everyone) ha ho = stays a (fixed everyone) ha tt

-- tables that get the rows of one role after the other
module _ (ws : Words) (t : Table) where
  pub filled_none : length t ≡ table_rows → Filled ws 0 t t
  filled_none l = record { long = l; grows = λ s ok words b. b }

  pub filled_more : (j : ℕ) (w : Watchers) (u v : Table) (x : WatcherRows) → Filled ws j t u → j < ws.count → w ≡ words_at ws j → RowsOf ws w x → RoleRows x j u v
      → Filled ws (j + 1) t v
  filled_more j w u v x f l e o r = record {
    long = r.long;
    grows = λ s ok words b. based_more s ok ws words u v j (rw words.roles_are at l) (f.grows s ok words b) x (subst (λ (z : Watchers). RowsOf ws z x) e o) r;
  }

pub ruleset fills = (filled_none, filled_more)

-- rows for all roles are the order with no query known
pub knows_none : (s : List ℕ) (ws : Words) (t u : Table) → Accepted s → WordsOf s ws → Based s 0 t → Filled ws ws.count t u → Knows s [] u
unfolding at_most
knows_none s ws t u ok words b f =
    let d = f.grows s ok words b in
    record { long = f.long; decides = (rw words.roles_are at d).right }

pub ruleset facts = (head_there, principals_few, roles_few, accepted_row)

pub ruleset based = (based_none, knows_none)
