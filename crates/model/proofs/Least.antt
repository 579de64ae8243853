-- A round adds only what all closed sets must hold, and after as many rounds as there are roles a round adds nothing, so the rounds' sets are closed themselves: the least.
use Prim.Native.Nat.{ℕ, zero, suc, ◌<◌, ◌≤◌}
use native.Mathlib.Omega.{arith}
use mathlib.Core.Path.{◌≡◌, refl, sym, ap, ◌∙◌}
use mathlib.Core.Logic.{◌⊎◌, inl, inr, ⊎_elim}
use mathlib.Core.List.{List, [], ◌∷◌}
use mathlib.Core.Bool.{Bool, true, false, cond, true≢false}
use lib.ListN.{length, get_or, set, length-set, length-append, get_or-eq_default, get_or-append}
use native.Mathlib.Decide.{dec_lt}
use lib.Seq.{get_or-set_same, get_or_at}
use lib.Bits.{bit_or}
use Rattle.model.specs.Sets.{has}
use Rattle.model.specs.Policy.{roles, members, takes}
use Rattle.model.specs.Meaning.{Closed, gather, grown, steps, rounds, column, meanings, meaning}
use Rattle.model.proofs.Sets.{has_zero, has_or_l, has_or_r, or_has}
use Rattle.model.proofs.Below.{last_or}
use Rattle.model.proofs.Enough.{Still, enough}

-- p is in row r of w
abbrev pub In : List ℕ → ℕ → ℕ → Type 0
In w p r = has (get_or w r 0) p ≡ true

-- a column has f r at place r
pub column_length : (f : ℕ → ℕ) (n : ℕ) → length (column f n) ≡ n
unfolding column
column_length f zero = refl
column_length f (suc n) = length-append (column f n) _ ∙ let e = column_length f n in omega arith

pub column_at : (f : ℕ → ℕ) (n r : ℕ) → r < n → get_or (column f n) r 0 ≡ f r
unfolding column
column_at f zero r l = absurd (omega arith)
column_at f (suc n) r l = ⊎_elim
    (λ e. rw e (get_or_at (column f n) (f n) [] 0 n (column_length f n)))
    (λ m. get_or-append (column f n) _ 0 r (rw column_length m) ∙ column_at f n r m)
    (last_or n r l)

-- what is in a row once row i is set to x: the old, or x
set_in : (w : List ℕ) (i x p r : ℕ) → In (set w i x) p r → In w p r ⊎ ((r ≡ i) × (has x p ≡ true))
set_in [] i x p r h = inl h
set_in (y ∷ w) zero x p zero h = inr (refl, h)
set_in (y ∷ w) zero x p (suc r) h = inl h
set_in (y ∷ w) (suc i) x p zero h = inl h
set_in (y ∷ w) (suc i) x p (suc r) h = ⊎_elim inl (λ (e, a). inr (ap suc e, a)) (set_in w i x p r h)

set_keeps : (w : List ℕ) (i x p : ℕ) → (In w p i → has x p ≡ true) → (r : ℕ) → In w p r → In (set w i x) p r
set_keeps [] i x p f r h = h
set_keeps (y ∷ w) zero x p f zero h = f h
set_keeps (y ∷ w) zero x p f (suc r) h = h
set_keeps (y ∷ w) (suc i) x p f zero h = h
set_keeps (y ∷ w) (suc i) x p f (suc r) h = set_keeps w i x p f r h

-- whoever is in a row's set is in a row that there is
row_inside : (w : List ℕ) (r p : ℕ) → In w p r → r < length w
row_inside w r p h = go (dec_lt r (length w))
  where
    go : Dec (r < length w) → r < length w
    go (yes l) = l
    go (no k) = let q : length w ≤ r = omega arith in absurd (true≢false (sym h ∙ rw (get_or-eq_default w 0 {n = r} q) (has_zero p)))

set_puts : (w : List ℕ) (i x p : ℕ) → i < length w → has x p ≡ true → In (set w i x) p i
set_puts w i x p l h = rw (get_or-set_same w i x 0) h

-- a set that may be added: what was in it stays, what comes in was in one of the two
cond_keeps : (b : Bool) (x y p : ℕ) → has x p ≡ true → has (cond b (bit_or x y) x) p ≡ true
cond_keeps true x y p h = has_or_l x y p h
cond_keeps false x y p h = h

cond_cases : {A : Type 0} (b : Bool) (x y p : ℕ) → (has x p ≡ true → A) → (b ≡ true → has y p ≡ true → A) → has (cond b (bit_or x y) x) p ≡ true → A
cond_cases true x y p f g h = ⊎_elim f (g refl) (or_has x y p h)
cond_cases false x y p f g h = f h

module _ (w : List ℕ) (row p : ℕ) where
  pub gather_has : (n j : ℕ) → j < n → has row j ≡ true → In w p j → has (gather w row n) p ≡ true
  unfolding gather
  gather_has zero j l t h = absurd (omega arith)
  gather_has (suc n) j l t h = ⊎_elim
      (λ i. let e : has row n ≡ true = rw i at t in simp e (has_or_r (gather w row n) (get_or w n 0) p (rw i at h)))
      (λ m. cond_keeps (has row n) (gather w row n) (get_or w n 0) p (gather_has n j m t h))
      (last_or n j l)

  pub has_gather : (n : ℕ) → has (gather w row n) p ≡ true → (j : ℕ) × (j < n) × (has row j ≡ true) × In w p j
  unfolding gather
  has_gather zero h = absurd (true≢false (sym h ∙ has_zero p))
  has_gather (suc n) h = cond_cases (has row n) (gather w row n) (get_or w n 0) p
      (λ a. let (j, l, t, k) = has_gather n a in (j, omega arith, t, k))
      (λ t k. (n, omega arith, t, k)) h

module _ (t : List ℕ) where
  pub length_steps : (w : List ℕ) (n : ℕ) → length (steps t w n) ≡ length w
  unfolding steps
  length_steps w zero = refl
  length_steps w (suc n) = simp length-set (length_steps w n)

  length_rounds : (m : List ℕ) → length m ≡ length t → (n : ℕ) → length (rounds t m n) ≡ length t
  unfolding rounds
  length_rounds m same zero = same
  length_rounds m same (suc n) = length_steps (rounds t m n) (length t) ∙ length_rounds m same n

-- from here on one principal p at a time, in rows that take by t and have the members m
module _ (t m : List ℕ) (same : length m ≡ length t) (p : ℕ) where
  -- why a step puts p into row r, where H says which rows have p
  data Due (H : ℕ → Type 0) (r : ℕ) : Type 0 where
    before : H r → Due H r
    taken : {j : ℕ} → j < length t → has (get_or t r 0) j ≡ true → H j → Due H r

  due_mono : {H K : ℕ → Type 0} → ((j : ℕ) → H j → K j) → {r : ℕ} → Due H r → Due K r
  due_mono f {r} (before h) = before (f r h)
  due_mono f (taken {j = j} l b h) = taken l b (f j h)

  -- a step puts p in exactly where it is due: nothing below looks into `grown`
  due_grown : (w : List ℕ) (r : ℕ) → Due (In w p) r → has (grown t w r) p ≡ true
  unfolding grown
  due_grown w r (before h) = has_or_l (get_or w r 0) (gather w (get_or t r 0) (length t)) p h
  due_grown w r (taken {j = j} l b h) = has_or_r (get_or w r 0) _ p (gather_has w (get_or t r 0) p (length t) j l b h)

  grown_due : (w : List ℕ) (r : ℕ) → has (grown t w r) p ≡ true → Due (In w p) r
  unfolding grown
  grown_due w r h = ⊎_elim before
      (λ a. let (j, l, b, k) = has_gather w (get_or t r 0) p (length t) a in taken l b k)
      (or_has (get_or w r 0) (gather w (get_or t r 0) (length t)) p h)

  -- steps in place: what was in stays, what is due comes in, and only what is due
  steps_keep : (w : List ℕ) (n r : ℕ) → In w p r → In (steps t w n) p r
  unfolding steps
  steps_keep w zero r h = h
  steps_keep w (suc n) r h = set_keeps (steps t w n) n _ p (λ a. due_grown (steps t w n) n (before a)) r (steps_keep w n r h)

  steps_put : (w : List ℕ) (n r : ℕ) → r < n → r < length w → Due (In w p) r → In (steps t w n) p r
  unfolding steps
  steps_put w zero r l k d = absurd (omega arith)
  steps_put w (suc n) r l k d = ⊎_elim
      (λ e. rw e (set_puts (steps t w n) n _ p (rw length_steps (rw e at k)) (due_grown (steps t w n) n (due_mono (steps_keep w n) (rw e at d)))))
      (λ b. set_keeps (steps t w n) n _ p (λ a. due_grown (steps t w n) n (before a)) r (steps_put w n r b k d))
      (last_or n r l)

  steps_least : (H : ℕ → Type 0) → ((r : ℕ) → r < length t → Due H r → H r) → (w : List ℕ) → ((r : ℕ) → In w p r → H r)
      → (n : ℕ) → n ≤ length t → (r : ℕ) → In (steps t w n) p r → H r
  unfolding steps
  steps_least H closed w f zero l r h = f r h
  steps_least H closed w f (suc n) l r h = ⊎_elim (steps_least H closed w f n (omega arith) r)
      (λ (e, a). rw e (closed n l (due_mono (steps_least H closed w f n (omega arith)) (grown_due (steps t w n) n a))))
      (set_in (steps t w n) n _ p r h)

  rounds_least : (H : ℕ → Type 0) → ((r : ℕ) → r < length t → has (get_or m r 0) p ≡ true → H r) → ((r : ℕ) → r < length t → Due H r → H r)
      → (n r : ℕ) → In (rounds t m n) p r → H r
  unfolding rounds
  rounds_least H own closed zero r h = own r (rw same at (row_inside m r p h)) h
  rounds_least H own closed (suc n) r h = steps_least H closed (rounds t m n) (rounds_least H own closed n) (length t) (omega arith) r h

  -- whether p is in row r after n rounds
  After : ℕ → ℕ → Bool
  After n r = has (get_or (rounds t m n) r 0) p

  after_keep : (n r : ℕ) → After n r ≡ true → After (suc n) r ≡ true
  unfolding After rounds
  after_keep n r h = steps_keep (rounds t m n) (length t) r h

  after_members : (n r : ℕ) → r < length t → has (get_or m r 0) p ≡ true → In (rounds t m n) p r
  unfolding rounds After
  after_members zero r l h = h
  after_members (suc n) r l h = after_keep n r (after_members n r l h)

  -- a round that adds nothing had all that is due
  still_closed : (n : ℕ) → Still (length t) (After n) (After (suc n)) → (r : ℕ) → r < length t → Due (In (rounds t m n) p) r → In (rounds t m n) p r
  unfolding After rounds
  still_closed n q r l d = q r l (steps_put (rounds t m n) (length t) r l (rw (length_rounds t m same n) l) d)

  all_due : (r : ℕ) → r < length t → Due (In (rounds t m (length t)) p) r → In (rounds t m (length t)) p r
  unfolding After
  all_due = still_closed (length t) (enough (length t) After after_keep
      (λ n q r l h. after_keep n r (rounds_least (In (rounds t m n) p) (after_members n) (still_closed n q) (suc (suc n)) r h)))

-- a policy's columns
module _ (s : List ℕ) where
  abbrev ts : List ℕ
  ts = column (takes s) (roles s)

  abbrev ms : List ℕ
  ms = column (members s) (roles s)

  alike : length ms ≡ length ts
  alike = column_length (members s) (roles s) ∙ sym (column_length (takes s) (roles s))

  count : length ts ≡ roles s
  count = column_length (takes s) (roles s)

  -- the rounds' last sets are the meanings, however their number is written
  is_meaning : (n : ℕ) → n ≡ roles s → (r p : ℕ) → In (rounds ts ms n) p r → has (meaning s r) p ≡ true
  unfolding meanings meaning
  is_meaning n e r p h = rw e at h

  meaning_is : (n : ℕ) → n ≡ roles s → (r p : ℕ) → has (meaning s r) p ≡ true → In (rounds ts ms n) p r
  unfolding meanings meaning
  meaning_is n e r p h = rw e h

  -- the meanings are closed
  pub meaning_closed : Closed s (λ r p. has (meaning s r) p ≡ true)
  meaning_closed = record {
    own = λ r p l h. is_meaning (roles s) refl r p (after_members ts ms alike p (roles s) r (rw count l) (rw (column_at (members s) (roles s) r l) h));
    taken = λ r j p l k b h. is_meaning (length ts) count r p
        (all_due ts ms alike p r (rw count l) (taken (rw count k) (rw (column_at (takes s) (roles s) r l) b) (meaning_is (length ts) count j p h)));
  }

  -- and no closed sets hold less
  pub meaning_least : (Holds : ℕ → ℕ → Type 0) → Closed s Holds → (r p : ℕ) → has (meaning s r) p ≡ true → Holds r p
  unfolding meanings meaning
  meaning_least Holds c r p h = rounds_least ts ms alike p (λ j. Holds j p) own closed (roles s) r h
    where
      own : (j : ℕ) → j < length ts → has (get_or ms j 0) p ≡ true → Holds j p
      own j l k = let b : j < roles s = rw count at l in c.own j p b (rw (column_at (members s) (roles s) j b) at k)

      closed : (j : ℕ) → j < length ts → Due ts ms alike p (λ i. Holds i p) j → Holds j p
      closed j l (before k) = k
      closed j l (taken {j = i} a b k) =
          let d : j < roles s = rw count at l in
          c.taken j i p d (rw count at a) (rw (column_at (takes s) (roles s) j d) at b) k
