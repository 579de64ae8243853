-- Along a run of an accepted statement what is known stays true (it is listed, and what breaks it rolls back), and without gains what is hidden stays hidden (F4); in a transaction that mutates hidden rows only, open rows stay as they are (F3).
use Prim.Native.Nat.{ℕ}
use mathlib.Core.Path.{◌≡◌, refl, subst}
use mathlib.Core.List.Memᴰ
use mathlib.Core.List.{List, [], ◌∷◌, ◌++◌, Memᴰ}
use mathlib.Core.Bool.{true}
use Rattle.model.specs.Policy.{Side}
use Rattle.model.specs.Mutation.{Mutation}
use Rattle.model.specs.Syntax.{Atom, Query, Stmt}
use Rattle.model.specs.Program.{version}
use Rattle.model.specs.Flow.{Around, outside, inside}
use Rattle.model.specs.Atoms.{holds}
use Rattle.model.specs.Run.{Update, mutate_all}
use Rattle.model.specs.Claim.{NoGain}
use Rattle.model.specs.Fits.{Each}
use Rattle.model.proofs.FlowParts.{ListedHold, Placed, Mutates, Parts, parts}
use Rattle.model.proofs.Openness.{Setting, is_open, Good, Near, near_refl, near_trans, hidden_stays_hidden, unbroken}
use Rattle.model.proofs.Runs.{End, ends, policy_of, update_of, Runs, run_skip, run_assign, run_empty, run_block, run_block_rolls, run_then, run_else, run_stop, run_more, run_more_rolls, run_holds, run_fails, run_update, run_update_rolls, run_transaction, run_again}
use Rattle.model.proofs.Semantics.{AllHold}
use Rattle.model.proofs.States.{label_of, Alike}
use Rattle.model.proofs.Updates.{update_good, RowsHidden, hidden_update}

-- the queries that the surrounding transaction lists
abbrev pub listed_of : Around → List Query
listed_of outside = []
listed_of (inside listed xs rs) = listed

-- a statement that is accepted where it stands, by the fixed part
abbrev pub Stands : Setting → Around → List Query → (Side → List Atom) → Stmt → Type 0
Stands S around known context x = Placed S.base S.program around known context x

-- what that gives for its parts
pub rule : (S : Setting) {around : Around} {known : List Query} {context : Side → List Atom} {x : Stmt} → Stands S around known context x → Parts S.base S.program around known context x
rule S = parts S.base S.program S.base_accepted

-- a run of a statement in the program's own version
abbrev pub RunsIn : Setting → List Query → Stmt → List ℕ → List ℕ → End → List Update → Type 0
RunsIn S = Runs (version S.program)

-- what is known: nothing outside a transaction, and inside it listed queries that hold
abbrev pub Known : Around → List Query → List ℕ → Type 0
Known outside known s = known ≡ []
Known (inside listed xs rs) known s = ListedHold listed known s

-- so a transaction begins: where nothing is known, all that is known is listed and holds
pub nothing_known : {known : List Query} (listed : List Query) (s : List ℕ) → known ≡ [] → ListedHold listed known s
nothing_known listed s e q i = absurd (Memᴰ.not-nil (subst (λ (k : List Query). Memᴰ q k) e i))

pub all_hold : (around : Around) (known : List Query) (s : List ℕ) → Known around known s → AllHold s known
all_hold outside known s e = λ q i. (nothing_known [] s e q i).1
all_hold (inside listed xs rs) known s h = λ q i. (h q i).1

-- no gain in a trace is none in its parts
pub no_gain_first : {group : ℕ} (us vs : List Update) → NoGain group (us ++ vs) → NoGain group us
no_gain_first us vs n u i = n u (Memᴰ.append_left vs i)

pub no_gain_later : {group : ℕ} (us : List Update) {vs : List Update} → NoGain group (us ++ vs) → NoGain group vs
no_gain_later us n u i = n u (Memᴰ.append_right us i)

-- a later policy that opens no atom which an earlier one hides
pub record ShowsNoMore (S : Setting) (s t : List ℕ) : Type 0 where
  pub good : Good S t
  pub was_open : (a : Atom) → is_open S t a ≡ true → is_open S s a ≡ true

shows_refl : {S : Setting} {s : List ℕ} → Good S s → ShowsNoMore S s s
shows_refl g = record { good = g; was_open = λ a o. o }

shows_trans : {S : Setting} {s t u : List ℕ} → ShowsNoMore S s t → ShowsNoMore S t u → ShowsNoMore S s u
shows_trans k l = record { good = l.good; was_open = λ a o. k.was_open a (l.was_open a o) }

-- then states that are alike stay so when nothing but the policies changes
pub alike_shown : {S : Setting} {s m t n s₁ t₁ : List ℕ} → Alike S s m t n → ShowsNoMore S s s₁ → Near S s₁ t₁ → Alike S s₁ m t₁ n
alike_shown {S} a k near = record { near = near; room1 = a.room1; room2 = a.room2; values = λ x l o. a.values x l (k.was_open (label_of S x) o) }

module _ (S : Setting) where
  -- a listed query that holds goes on to hold, since an update that fails it rolls back
  listed_stays : {listed known : List Query} {xs rs : ℕ} {context : Side → List Atom} {x : Stmt} {s m s₁ m₁ : List ℕ} {us : List Update}
      → Stands S (inside listed xs rs) known context x → RunsIn S listed x s m (ends s₁ m₁) us → (q : Query) → Memᴰ q listed → holds s q ≡ true → holds s₁ q ≡ true
  listed_stays h run_skip q i w = w
  listed_stays h run_assign q i w = w
  listed_stays h run_empty q i w = w
  listed_stays h (run_block d e) q i w = listed_stays (rule S h).1 e q i (listed_stays (rule S h).0 d q i w)
  listed_stays h (run_then t d) q i w = listed_stays (rule S h).0 d q i w
  listed_stays h (run_else t d) q i w = listed_stays (rule S h).1 d q i w
  listed_stays h (run_stop t) q i w = w
  listed_stays h (run_more t d e) q i w = listed_stays h e q i (listed_stays (rule S h) d q i w)
  listed_stays h (run_holds t d) q i w = listed_stays (rule S h).0.placed d q i w
  listed_stays h (run_fails t d) q i w = listed_stays (rule S h).1.placed d q i w
  listed_stays {listed} h (run_update {s = s} t) q i w = unbroken listed s _ t q i w
  listed_stays h (run_transaction d) q i w = absurd (rule S h)
  listed_stays h (run_again d e) q i w = absurd (rule S h)

  -- so what is known stays true
  pub known_stays : {around : Around} {known l : List Query} {context : Side → List Atom} {x : Stmt} {s m s₁ m₁ : List ℕ} {us : List Update}
      → Stands S around known context x → RunsIn S l x s m (ends s₁ m₁) us → l ≡ listed_of around → Known around known s → Known around known s₁
  known_stays {around = outside} h d e w = w
  known_stays {around = inside _ _ _} {x} {s} {m} {s₁} {m₁} {us} h d e w =
      let own = subst (λ (k : List Query). RunsIn S k x s m (ends s₁ m₁) us) e d in λ q i. ((w q i).0, listed_stays h own q (w q i).0 (w q i).1)

  pub update_shows : {rs : ℕ} (ms : List Mutation) {s : List ℕ} → Each (Mutates S.base rs) ms → Good S s → NoGain S.group (update_of s ms ∷ []) → ShowsNoMore S s (mutate_all s ms)
  update_shows ms {s} h g n =
      let k = update_good ms h g in
      record { good = k; was_open = λ a o. hidden_stays_hidden (update_of s ms) g k (n (update_of s ms) (Memᴰ.head refl)) a o }

  -- F4 along a run
  pub hidden_along : {l : List Query} {x : Stmt} {s m : List ℕ} {o : End} {us : List Update} {around : Around} {known : List Query} {context : Side → List Atom}
      → Stands S around known context x → RunsIn S l x s m o us → Good S s → NoGain S.group us → ShowsNoMore S s (policy_of o)
  hidden_along h run_skip g n = shows_refl g
  hidden_along h run_assign g n = shows_refl g
  hidden_along h run_empty g n = shows_refl g
  hidden_along h (run_block {us = us} {vs = vs} d e) g n =
      let k = hidden_along (rule S h).0 d g (no_gain_first us vs n) in
      shows_trans k (hidden_along (rule S h).1 e k.good (no_gain_later us n))
  hidden_along h (run_block_rolls d) g n = hidden_along (rule S h).0 d g n
  hidden_along h (run_then t d) g n = hidden_along (rule S h).0 d g n
  hidden_along h (run_else t d) g n = hidden_along (rule S h).1 d g n
  hidden_along h (run_stop t) g n = shows_refl g
  hidden_along h (run_more {us = us} {vs = vs} t d e) g n =
      let k = hidden_along (rule S h) d g (no_gain_first us vs n) in
      shows_trans k (hidden_along h e k.good (no_gain_later us n))
  hidden_along h (run_more_rolls t d) g n = hidden_along (rule S h) d g n
  hidden_along {around = outside} h (run_holds t d) g n = absurd (rule S h)
  hidden_along {around = inside _ _ _} h (run_holds t d) g n = hidden_along (rule S h).0.placed d g n
  hidden_along {around = outside} h (run_fails t d) g n = absurd (rule S h)
  hidden_along {around = inside _ _ _} h (run_fails t d) g n = hidden_along (rule S h).1.placed d g n
  hidden_along {around = outside} h (run_update t) g n = absurd (rule S h)
  hidden_along {around = inside _ _ _} h (run_update {ms = ms} t) g n = update_shows ms (rule S h).0 g n
  hidden_along {around = outside} h (run_update_rolls t) g n = absurd (rule S h)
  hidden_along {around = inside _ _ _} h (run_update_rolls {ms = ms} t) g n = update_shows ms (rule S h).0 g n
  hidden_along {around = outside} h (run_transaction d) g n = hidden_along (rule S h) d g n
  hidden_along {around = inside _ _ _} h (run_transaction d) g n = absurd (rule S h)
  hidden_along {around = outside} h (run_again {us = us} {vs = vs} d e) g n =
      let k = hidden_along (rule S h) d g (no_gain_first us vs n) in
      shows_trans k (hidden_along h e k.good (no_gain_later us n))
  hidden_along {around = inside _ _ _} h (run_again d e) g n = absurd (rule S h)

  -- F3 along a run inside a transaction
  pub rows_stay : {l k known : List Query} {xs rs : ℕ} {context : Side → List Atom} {x : Stmt} {s m : List ℕ} {o : End} {us : List Update}
      → Stands S (inside l xs rs) known context x → RunsIn S k x s m o us → Good S s → RowsHidden S rs → Near S s (policy_of o)
  rows_stay h run_skip g v = near_refl g
  rows_stay h run_assign g v = near_refl g
  rows_stay h run_empty g v = near_refl g
  rows_stay h (run_block d e) g v = let n = rows_stay (rule S h).0 d g v in near_trans n (rows_stay (rule S h).1 e n.good2 v)
  rows_stay h (run_block_rolls d) g v = rows_stay (rule S h).0 d g v
  rows_stay h (run_then t d) g v = rows_stay (rule S h).0 d g v
  rows_stay h (run_else t d) g v = rows_stay (rule S h).1 d g v
  rows_stay h (run_stop t) g v = near_refl g
  rows_stay h (run_more t d e) g v = let n = rows_stay (rule S h) d g v in near_trans n (rows_stay h e n.good2 v)
  rows_stay h (run_more_rolls t d) g v = rows_stay (rule S h) d g v
  rows_stay h (run_holds t d) g v = rows_stay (rule S h).0.placed d g v
  rows_stay h (run_fails t d) g v = rows_stay (rule S h).1.placed d g v
  rows_stay h (run_update {ms = ms} t) g v = hidden_update ms (rule S h).0 g v
  rows_stay h (run_update_rolls {ms = ms} t) g v = hidden_update ms (rule S h).0 g v
  rows_stay h (run_transaction d) g v = absurd (rule S h)
  rows_stay h (run_again d e) g v = absurd (rule S h)
