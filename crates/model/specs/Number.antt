-- The numbers that a call returns, in the order of document 01's table, and how one number is chosen among several checks.
use Rattle.std.specs.Prelude.{ℕ, zero, suc, Bool, cond, eqb}

-- 0: accepted, finished
abbrev pub accepted : ℕ
accepted = 0

-- 1: the policy is under 7 bytes, or not as long as its rows say
abbrev pub policy_length : ℕ
policy_length = 1

-- 2: the policy's mark or version
abbrev pub policy_mark : ℕ
policy_mark = 2

-- 3: P or R is outside its range
abbrev pub policy_range : ℕ
policy_range = 3

-- 4: a row names a principal that there is not
abbrev pub row_principal : ℕ
row_principal = 4

-- 5: a row's owner is not viewer and truster, or its owner and name pair stands in an earlier row
abbrev pub row_owner : ℕ
row_owner = 5

-- 6: a row's members or taken roles are not allowed
abbrev pub row_grants : ℕ
row_grants = 6

-- 7: a meaning is asked of a role that there is not
abbrev pub no_such_role : ℕ
no_such_role = 7

-- 10: the program is over 4,096 bytes, ends early, or has bytes left over
abbrev pub program_length : ℕ
program_length = 10

-- 11: the program's mark or version
abbrev pub program_mark : ℕ
program_mark = 11

-- 12: an unknown code, mutation kind or atom
abbrev pub program_code : ℕ
program_code = 12

-- 13: a count, variable, role or principal out of range, or a label that is neither role nor everyone
abbrev pub program_range : ℕ
program_range = 13

-- 14: too deep
abbrev pub program_depth : ℕ
program_depth = 14

-- 15: a query or update outside a transaction, an unlisted query, a nested transaction
abbrev pub flow_transaction : ℕ
flow_transaction = 15

-- 16: an added member or taken role that the policy file does not allow
abbrev pub flow_grant : ℕ
flow_grant = 16

-- 17: the reading side is not derivable
abbrev pub flow_reading : ℕ
flow_reading = 17

-- 18: the trust side is not derivable
abbrev pub flow_trust : ℕ
flow_trust = 18

-- 20: the memory is not four bytes a variable
abbrev pub memory_length : ℕ
memory_length = 20

-- 21: the fuel is 0 or over its limit
abbrev pub fuel_range : ℕ
fuel_range = 21

-- 22: spent
abbrev pub fuel_spent : ℕ
fuel_spent = 22

-- number k unless the check holds, else what the later checks give
abbrev pub unless : Bool → ℕ → ℕ → ℕ
unless holds k later = cond holds later k

-- the first of two numbers that is not 0
abbrev pub first : ℕ → ℕ → ℕ
first a b = cond (eqb a 0) b a

-- the first number that is not 0 among f 0, f 1, .. f (n - 1), in this order
unfoldable pub first_below : (ℕ → ℕ) → ℕ → ℕ
first_below f zero = accepted
first_below f (suc n) = first (first_below f n) (f n)

-- a verdict: nothing against it, or a number with the place in the program where it shows
pub data Verdict : Type 0 where
  fine : Verdict
  refused : ℕ → ℕ → Verdict

-- number k at a place unless the check holds, else what the later checks give
abbrev pub require : Bool → ℕ → ℕ → Verdict → Verdict
require holds k place later = cond holds later (refused k place)

-- the first refusal of two
abbrev pub or_else : Verdict → Verdict → Verdict
or_else fine v = v
or_else (refused k place) v = refused k place

-- the number of a verdict, 0 where there is nothing against it
abbrev pub number_of : Verdict → ℕ
number_of fine = accepted
number_of (refused k place) = k

-- where it shows, 0 where there is nothing against it
abbrev pub place_of : Verdict → ℕ
place_of fine = 0
place_of (refused k place) = place
