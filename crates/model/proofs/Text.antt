-- The text of a run: worked examples; a number's digits read back give the number, with no zero in front; no run's text is
-- longer than the room that the program has for it.
use Prim.Native.Nat.{ℕ, zero, suc, ◌+◌, ◌*◌, ◌/◌, ◌%◌, ◌^◌, ◌<◌, ◌≤◌, ◌-◌}
use native.Mathlib.Omega.{arith}
use mathlib.Core.Path.{◌≡◌, refl, ap}
use mathlib.Core.List.{List, [], ◌∷◌, ◌++◌}
use native.Mathlib.Nat.{pow-suc}
use lib.ListN.{length, length-append, get_or-append}
use mathlib.Core.Logic.{⊎_elim}
use mathlib.Core.Bool.{true, false}
use lib.Dec.{eqb, ltb, leb}
use borrow.Author.Tests.{eqb-true, ltb-true, ltb-false, lt-ltb, le-ltb}
use Rattle.model.specs.Limits.{fuel_limit}
use Rattle.model.specs.Number.{accepted, flow_reading}
use Rattle.model.specs.Bytes.{byte, word}
use Rattle.model.specs.Value.{modulus, value_at}
use Rattle.model.specs.Run.{Outcome, run}
use Rattle.model.specs.Calls.{end_of}
use Rattle.model.proofs.Examples.{policy_e, first_program, worked_examples}
use Rattle.model.proofs.RunLaws.{Ran, refuses, finishes, spends, ran, finished_begins, units_within}
use Rattle.model.proofs.RunPolicy.{run_lengths}
use Rattle.model.proofs.Truth.{true_or_false}
use Rattle.model.specs.Text.{digit, space, newline, digits_by, decimal_within, decimal, signed_decimal, numbered, answer_line, used_line, variable_line, variable_lines, rest_of, text_of, end_text, printed, text_bytes}

-- document 01's first run: `answer 0`, `used 1`, `v0 7`, `v1 12`
pub record WorkedTexts : Type 0 where
  pub first_text : text_of accepted 1 (7 ∷ 0 ∷ 0 ∷ 0 ∷ 12 ∷ 0 ∷ 0 ∷ 0 ∷ [])
      ≡ 0x61 ∷ 0x6e ∷ 0x73 ∷ 0x77 ∷ 0x65 ∷ 0x72 ∷ 0x20 ∷ 0x30 ∷ 0x0a
      ∷ 0x75 ∷ 0x73 ∷ 0x65 ∷ 0x64 ∷ 0x20 ∷ 0x31 ∷ 0x0a
      ∷ 0x76 ∷ 0x30 ∷ 0x20 ∷ 0x37 ∷ 0x0a
      ∷ 0x76 ∷ 0x31 ∷ 0x20 ∷ 0x31 ∷ 0x32 ∷ 0x0a ∷ []
  -- `answer 17`, and no more
  pub refused_text : text_of flow_reading 0 (7 ∷ 0 ∷ 0 ∷ 0 ∷ [])
      ≡ 0x61 ∷ 0x6e ∷ 0x73 ∷ 0x77 ∷ 0x65 ∷ 0x72 ∷ 0x20 ∷ 0x31 ∷ 0x37 ∷ 0x0a ∷ []
  -- `0`, `10`, `-1`, `2147483647`, `-2147483648`
  pub zero_text : signed_decimal 0 ≡ 0x30 ∷ []
  pub ten_text : signed_decimal 10 ≡ 0x31 ∷ 0x30 ∷ []
  pub minus_one_text : signed_decimal (modulus - 1) ≡ 0x2d ∷ 0x31 ∷ []
  pub highest_text : signed_decimal 2147483647
      ≡ 0x32 ∷ 0x31 ∷ 0x34 ∷ 0x37 ∷ 0x34 ∷ 0x38 ∷ 0x33 ∷ 0x36 ∷ 0x34 ∷ 0x37 ∷ []
  pub lowest_text : signed_decimal (modulus - 2147483648)
      ≡ 0x2d ∷ 0x32 ∷ 0x31 ∷ 0x34 ∷ 0x37 ∷ 0x34 ∷ 0x38 ∷ 0x33 ∷ 0x36 ∷ 0x34 ∷ 0x38 ∷ []

pub worked_texts : WorkedTexts
unfolding word value_at digits_by decimal_within decimal signed_decimal numbered answer_line used_line variable_line variable_lines rest_of text_of
worked_texts =
    record {
      first_text = refl;
      refused_text = refl;
      zero_text = refl;
      ten_text = refl;
      minus_one_text = refl;
      highest_text = refl;
      lowest_text = refl;
    }

-- document 01's files for it print that text
pub first_printed : printed policy_e first_program (7 ∷ 0 ∷ 0 ∷ 0 ∷ 0 ∷ 0 ∷ 0 ∷ 0 ∷ [])
    ≡ text_of accepted 1 (7 ∷ 0 ∷ 0 ∷ 0 ∷ 12 ∷ 0 ∷ 0 ∷ 0 ∷ [])
unfolding end_text end_of
first_printed = ap (λ (o : Outcome). end_text (end_of o)) worked_examples.first_run

-- any bound from the number on gives the same digits
within_same : (k l n : ℕ) → n ≤ k → n ≤ l → decimal_within k n ≡ decimal_within l n
unfolding decimal_within digits_by
within_same zero zero n h i = refl
within_same zero (suc l) n h i = let z : n ≡ 0 = omega arith in rw z
within_same (suc k) zero n h i = let z : n ≡ 0 = omega arith in rw z
within_same (suc k) (suc l) n h i =
    ⊎_elim (λ e. rw e)
    (λ e. let f = ltb-false n 10 e in rw (e, within_same k l (n / 10) (omega arith) (omega arith)))
    (true_or_false (ltb n 10))

-- a number below ten is its digit
pub decimal_one : (n : ℕ) → n < 10 → decimal n ≡ digit n ∷ []
unfolding decimal decimal_within digits_by
decimal_one zero h = refl
decimal_one (suc n) h = rw (lt-ltb (suc n) 10 h)

-- a larger one is the digits of its tenth part and the last
pub decimal_more : (n : ℕ) → 10 ≤ n → decimal n ≡ decimal (n / 10) ++ digit (n % 10) ∷ []
unfolding decimal decimal_within digits_by
decimal_more zero h = absurd (omega arith)
decimal_more (suc n) h = rw (le-ltb (suc n) 10 h, within_same n (suc n / 10) (suc n / 10) (omega arith) (omega arith))

-- digits read from the first on, each ten times as much as the next
unfoldable pub read_digits : ℕ → List ℕ → ℕ
read_digits before [] = before
read_digits before (d ∷ ds) = read_digits (10 * before + (d - digit 0)) ds

read_last : (before : ℕ) (ds : List ℕ) (d : ℕ) → read_digits before (ds ++ d ∷ []) ≡ 10 * read_digits before ds + (d - digit 0)
unfolding read_digits
read_last before [] d = refl
read_last before (x ∷ ds) d = read_last (10 * before + (x - digit 0)) ds d

read_within : (k n : ℕ) → n ≤ k → read_digits 0 (decimal n) ≡ n
unfolding read_digits
read_within zero n l = rw (decimal_one n (omega arith)) (omega arith)
read_within (suc k) n l =
    ⊎_elim (λ (e : ltb n 10 ≡ true). rw (decimal_one n (ltb-true n 10 e)) (omega arith))
    (λ (e : ltb n 10 ≡ false).
    let m = ltb-false n 10 e in
    rw (decimal_more n m, read_last 0 (decimal (n / 10)) (digit (n % 10)), read_within k (n / 10) (omega arith)) (omega arith))
    (true_or_false (ltb n 10))

-- a number's digits read back give the number
pub decimal_read : (n : ℕ) → read_digits 0 (decimal n) ≡ n
decimal_read n = read_within n n (omega arith)

lead_within : (k n : ℕ) → n ≤ k → 0 < n → (0 < length (decimal n)) × (digit 0 < byte (decimal n) 0)
lead_within zero n l some = absurd (omega arith)
lead_within (suc k) n l some =
    ⊎_elim (λ (e : ltb n 10 ≡ true). rw (decimal_one n (ltb-true n 10 e)) (omega arith, omega arith))
    (λ (e : ltb n 10 ≡ false).
    let m = ltb-false n 10 e in
    let (long, lead) = lead_within k (n / 10) (omega arith) (omega arith) in
    rw (decimal_more n m, get_or-append (decimal (n / 10)) (digit (n % 10) ∷ []) 0 0 long, length-append) (omega arith, lead))
    (true_or_false (ltb n 10))

-- and no zero stands in front of them
pub decimal_lead : (n : ℕ) → 0 < n → digit 0 < byte (decimal n) 0
decimal_lead n some = (lead_within n n (omega arith) some).1

-- a number below 10^k has at most k digits
decimal_length : (k n : ℕ) → n < 10 ^ suc k → length (decimal n) ≤ suc k
decimal_length zero n l = rw (decimal_one n (omega arith)) (omega arith)
decimal_length (suc k) n l =
    let h = rw (pow-suc 10 (suc k)) at l in
    ⊎_elim (λ (e : ltb n 10 ≡ true). rw (decimal_one n (ltb-true n 10 e)) (omega arith))
    (λ (e : ltb n 10 ≡ false). rw (decimal_more n (ltb-false n 10 e), length-append) (omega (arith, decimal_length k (n / 10) (omega arith))))
    (true_or_false (ltb n 10))

-- so each line has its bound
module _ (word : List ℕ) (n last : ℕ) (few : n < 2 ^ 32) where
  numbered_length : length (numbered word n last) ≤ length word + 11
  unfolding numbered
  numbered_length = simp length-append (omega (arith, decimal_length 9 n (omega arith)))

signed_length : (a : ℕ) → a < 2 ^ 32 → length (signed_decimal a) ≤ 11
unfolding signed_decimal
signed_length a l =
    ⊎_elim (λ (e : leb (2 ^ 31) a ≡ true). rw e (omega (arith, decimal_length 9 (modulus - a) (omega arith))))
    (λ (e : leb (2 ^ 31) a ≡ false). rw e (omega (arith, decimal_length 9 a (omega arith))))
    (true_or_false (leb (2 ^ 31) a))

-- a buffer of bytes
unfoldable pub AllBytes : List ℕ → Type 0
AllBytes m = (i : ℕ) → byte m i < 256

value_below : (m : List ℕ) (x : ℕ) → AllBytes m → value_at m x < 2 ^ 32
unfolding AllBytes value_at word
value_below m x small = omega (arith, small (4 * x + 0), small (4 * x + 1), small (4 * x + 2), small (4 * x + 3))

lines_length : (m : List ℕ) (n : ℕ) → AllBytes m → n ≤ 64 → length (variable_lines m n) ≤ 24 * n
unfolding variable_lines variable_line
lines_length m zero small l = omega arith
lines_length m (suc n) small l =
    simp length-append
    (omega (arith, lines_length m n small (omega arith), numbered_length (0x76 ∷ []) n space (omega arith), signed_length (value_at m n) (value_below m n small)))

-- the whole text of a run is within the buffer that the program has for it
text_length : (number units : ℕ) (m : List ℕ) → number < 2 ^ 32 → units < 2 ^ 32 → AllBytes m → (number ≡ accepted → length m ≤ 256) → length (text_of number units m) ≤ text_bytes
unfolding text_of answer_line rest_of used_line
text_length number units m a b small few =
    ⊎_elim (λ (e : eqb number accepted ≡ true).
    let l = few (eqb-true number accepted e) in
    rw (length-append, e, length-append)
    (omega (
      arith,
      numbered_length (0x61 ∷ 0x6e ∷ 0x73 ∷ 0x77 ∷ 0x65 ∷ 0x72 ∷ space ∷ []) number newline a,
      numbered_length (0x75 ∷ 0x73 ∷ 0x65 ∷ 0x64 ∷ space ∷ []) units newline b,
      lines_length m (length m / 4) small (omega arith),
    )))
    (λ (e : eqb number accepted ≡ false).
    rw (length-append, e) (omega (arith, numbered_length (0x61 ∷ 0x6e ∷ 0x73 ∷ 0x77 ∷ 0x65 ∷ 0x72 ∷ space ∷ []) number newline a)))
    (true_or_false (eqb number accepted))

pub printed_length : (s p m : List ℕ) → AllBytes (run s p m fuel_limit).memory → length (printed s p m) ≤ text_bytes
unfolding end_text end_of
printed_length s p m small =
    text_length (run s p m fuel_limit).number (run s p m fuel_limit).units (run s p m fuel_limit).memory
    (number (ran s p m fuel_limit)) (omega (arith, units_within s p m fuel_limit)) small
    (λ h. let b = finished_begins s p m fuel_limit h in omega (arith, b.program.few, b.memory_fits, (run_lengths s p m fuel_limit).1))
  where
    number : {o : Outcome} → Ran s p m fuel_limit o → o.number < 2 ^ 32
    number (refuses k some few) = omega arith
    number (finishes b e) = omega arith
    number (spends b e) = omega arith
