-- What the delivered program prints: number, units and variables of a run as lines of ASCII text.
use Rattle.std.specs.Prelude.{ℕ, zero, suc, ◌+◌, ◌*◌, ◌/◌, ◌%◌, List, [], ◌∷◌, ◌++◌, Bool, true, false, cond, eqb, ltb, length}
use Rattle.model.specs.Limits.{head_bytes, field_bytes, role_limit, program_bytes, variable_limit, fuel_limit}
use Rattle.model.specs.Number.{accepted}
use Rattle.model.specs.Value.{negative, magnitude, value_at}
use Rattle.model.specs.Calls.{Ended, run_answer}

-- the digit of a number below ten
abbrev pub digit : ℕ → ℕ
digit d = 0x30 + d

-- a number's digits, by whether it is below ten: one, or those of its tenth part, which `sub` gives, and the last
unfoldable pub digits_by : Bool → (ℕ → List ℕ) → ℕ → List ℕ
digits_by true sub n = digit n ∷ []
digits_by false sub n = sub (n / 10) ++ digit (n % 10) ∷ []

-- a number's decimal digits where it has at most k before the last
unfoldable pub decimal_within : ℕ → ℕ → List ℕ
decimal_within zero n = digit n ∷ []
decimal_within (suc k) n = digits_by (ltb n 10) (decimal_within k) n

-- a number's decimal digits: n has at most n of them before the last
unfoldable pub decimal : ℕ → List ℕ
decimal n = decimal_within n n

-- a 32-bit value as signed decimal: a minus sign before the digits of a negative one
unfoldable pub signed_decimal : ℕ → List ℕ
signed_decimal a = cond (negative a) (0x2d ∷ decimal (magnitude a)) (decimal a)

abbrev pub space : ℕ
space = 0x20

abbrev pub newline : ℕ
newline = 0x0a

-- a word, a number and the byte after it
unfoldable pub numbered : List ℕ → ℕ → ℕ → List ℕ
numbered word n last = word ++ decimal n ++ last ∷ []

-- `answer N`
unfoldable pub answer_line : ℕ → List ℕ
answer_line number = numbered (0x61 ∷ 0x6e ∷ 0x73 ∷ 0x77 ∷ 0x65 ∷ 0x72 ∷ space ∷ []) number newline

-- `used U`
unfoldable pub used_line : ℕ → List ℕ
used_line units = numbered (0x75 ∷ 0x73 ∷ 0x65 ∷ 0x64 ∷ space ∷ []) units newline

-- `vX D` for variable x of a memory
unfoldable pub variable_line : List ℕ → ℕ → List ℕ
variable_line memory x = numbered (0x76 ∷ []) x space ++ signed_decimal (value_at memory x) ++ newline ∷ []

-- the lines of the first n variables
unfoldable pub variable_lines : List ℕ → ℕ → List ℕ
variable_lines memory zero = []
variable_lines memory (suc n) = variable_lines memory n ++ variable_line memory n

-- what follows the answer: for 0 the units and each variable, else nothing
unfoldable pub rest_of : ℕ → ℕ → List ℕ → List ℕ
rest_of number units memory = cond (eqb number accepted) (used_line units ++ variable_lines memory (length memory / 4)) []

-- the text of number, units and end memory
unfoldable pub text_of : ℕ → ℕ → List ℕ → List ℕ
text_of number units memory = answer_line number ++ rest_of number units memory

unfoldable pub end_text : Ended → List ℕ
end_text e = text_of e.number e.units e.memory

-- what the program prints for the bytes of policy, program and memory: a run with all the fuel there is
abbrev pub printed : List ℕ → List ℕ → List ℕ → List ℕ
printed s p m = end_text (run_answer s p m fuel_limit)

-- as much of each file as decides its number: one byte more than the longest that is accepted
abbrev pub policy_cut : ℕ
policy_cut = 1 + head_bytes + field_bytes * role_limit

abbrev pub program_cut : ℕ
program_cut = 1 + program_bytes

abbrev pub memory_cut : ℕ
memory_cut = 1 + 4 * variable_limit

-- room for the text of any run
abbrev pub text_bytes : ℕ
text_bytes = 2048
