-- What the answer of a reading says of readings that are made of it, whatever is read.
use mathlib.Core.Path.{◌≡◌}
use Prim.Native.Nat.{ℕ, zero, suc, ◌+◌, ◌-◌, ◌/◌, ◌%◌, ◌<◌, ◌≤◌}
use mathlib.Core.List.{List}
use native.Mathlib.Omega.{arith}
use lib.ListN.{length}
use Rattle.std.specs.Prelude.{Result, Ok, Err, IsErrAnd}
use Rattle.model.specs.Program.{Read as Reading, got, bad, and_then, read_many}
use Rattle.program.specs.declared.refused.Refused.{Refused}
use Rattle.program.specs.Answer.{Reached, reached, stopped, place_limit, refusal, end_of}
use Rattle.program.specs.Refused.{tells, Answers}
use Rattle.program.proofs.AnswerLaws.{then_stopped, many_done, many_next}

-- a refusal keeps its number, and its place
module _ (r : Refused) (k place : ℕ) (e : r.word ≡ refusal k place) where
  pub number_kept : r.word / place_limit ≡ k
  unfolding refusal
  number_kept = omega arith

  pub place_kept : place < place_limit → r.word % place_limit ≡ place
  unfolding refusal
  place_kept l = omega arith

-- an answer that is made: a position, the next one, a refusal
pub answer_at : (p : ℕ) (x : Reached) → p < place_limit → reached p ≡ x → Answers (Ok p) x
unfolding Answers
answer_at p x l e = (e, l)

pub answer_next : (s : List ℕ) (at : ℕ) (x : Reached) → length s < place_limit → at < length s → reached (at + 1) ≡ x → Answers (Ok (at + 1)) x
answer_next s at x short l e = answer_at (at + 1) x (omega arith) e

pub answer_refused : (r : Refused) (k place : ℕ) (x : Reached) → r.word ≡ refusal k place → place < place_limit → stopped k place ≡ x → Answers (Err r) x
unfolding Answers
answer_refused r k place x e l h = rw (number_kept r k place e, place_kept r k place e l) h

pub ruleset made = (answer_at, answer_next, answer_refused)

-- what an answer says
pub position_told : (p : ℕ) (x : Reached) → Answers (Ok p) x → reached p ≡ x
unfolding Answers
position_told p x h = h.0

pub position_low : (p : ℕ) (x : Reached) → Answers (Ok p) x → p < place_limit
unfolding Answers
position_low p x h = h.1

pub answers_tell : (r : Result ℕ Refused) (x : Reached) → Answers r x → tells r ≡ x
unfolding Answers
answers_tell (Ok p) x h = h.0
answers_tell (Err r) x h = h

-- a refusal is passed on as it came
pub passed : (x : Reached) (r : Result ℕ Refused) (e : Refused) → IsErrAnd r (λ y. y ≡ e) → Answers (Err e) x → Answers r x
unfolding Answers
passed x (Err y) e q h = rw q h
passed x (Ok p) e q h = elim q [ ]

-- a reading that ended at a position is followed by the next; a refusal is the answer of the whole
module _ {A B : Type 0} where
  pub goes_on : (p : Reading A) (f : A → ℕ → Reading B) (a : ℕ) (r : Result ℕ Refused) → Answers (Ok a) (end_of p) → ((x : A) → Answers r (end_of (f x a))) → Answers r (end_of (and_then p f))
  unfolding Answers end_of and_then
  goes_on (got x m) f a r h k = let e : reached a ≡ reached m = h.0 in let q : m ≡ a = cc in rw q (k x)
  goes_on (bad b c) f a r h k = let e : reached a ≡ stopped b c = h.0 in cc

  pub stops : (p : Reading A) (f : A → ℕ → Reading B) (e : Refused) (r : Result ℕ Refused) → Answers (Err e) (end_of p) → IsErrAnd r (λ y. y ≡ e) → Answers r (end_of (and_then p f))
  unfolding Answers
  stops p f e r h q = passed _ r e q (then_stopped p f h)

-- an answer of a reading is one of any that comes to the same
pub answers_same : {x y : Reached} (r : Result ℕ Refused) → x ≡ y → Answers r x → Answers r y
answers_same r e h = rw (← e) h

-- the first of several that stops
many_stops : {A : Type 0} (sub : ℕ → Reading A) (j p : ℕ) (x : Reached) (e : Refused) (r : Result ℕ Refused) → end_of (read_many sub j p) ≡ x → 0 < j → Answers (Err e) (end_of (sub p)) → IsErrAnd r (λ y. y ≡ e) → Answers r x
unfolding read_many
many_stops sub zero p x e r h l a q = absurd (omega arith)
many_stops sub (suc j) p x e r h l a q = answers_same r h (stops (sub p) _ e r a q)

-- a loop over readings that counts what is left
module _ {A : Type 0} (sub : ℕ → Reading A) (i p : ℕ) (x : Reached) (e : end_of (read_many sub i p) ≡ x) where
  pub many_ends : i ≤ 0 → p < place_limit → Answers (Ok p) x
  many_ends h l = answer_at p x l (many_done sub i p x e h)

  module _ (h : 0 < i) where
    pub many_more : (m : ℕ) → Answers (Ok m) (end_of (sub p)) → end_of (read_many sub (i - 1) m) ≡ x
    many_more m a = many_next sub i p m x e h (position_told m _ a)

    pub many_refused : (w : Refused) (r : Result ℕ Refused) → Answers (Err w) (end_of (sub p)) → IsErrAnd r (λ y. y ≡ w) → Answers r x
    many_refused w r a q = many_stops sub i p x w r e h a q

-- a loop over readings that counts what is done: i of n
module _ {A : Type 0} (sub : ℕ → Reading A) (n i p : ℕ) (x : Reached) (e : end_of (read_many sub (n - i) p) ≡ x) where
  pub count_done : n ≤ i → p < place_limit → Answers (Ok p) x
  count_done h l = answer_at p x l (many_done sub (n - i) p x e (omega arith))

  module _ (h : i < n) where
    pub count_more : (m : ℕ) → Answers (Ok m) (end_of (sub p)) → end_of (read_many sub (n - (i + 1)) m) ≡ x
    count_more m a =
        let k : n - (i + 1) ≡ n - i - 1 = omega arith in rw k (many_next sub (n - i) p m x e (omega arith) (position_told m _ a))

    pub count_refused : (w : Refused) (r : Result ℕ Refused) → Answers (Err w) (end_of (sub p)) → IsErrAnd r (λ y. y ≡ w) → Answers r x
    count_refused w r a q = many_stops sub (n - i) p x w r e (omega arith) a q

pub ruleset counts = (count_done, count_more, count_refused, position_low)

pub ruleset many = (many_ends, many_more, many_refused, position_low, made)
