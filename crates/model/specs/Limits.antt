-- The limits of document 01, each by its one name.
use Rattle.std.specs.Prelude.{ℕ}

-- a policy's head: mark, version, P and R
abbrev pub head_bytes : ℕ
head_bytes = 7

-- the fields that every row has: owner, name, viewers, trusters, members, takes
abbrev pub field_bytes : ℕ
field_bytes = 22

-- how many principals and roles a policy has
abbrev pub principal_limit : ℕ
principal_limit = 32

abbrev pub role_limit : ℕ
role_limit = 64

-- how large a program may be, how many variables it has, how deep statements and expressions may go
abbrev pub program_bytes : ℕ
program_bytes = 4096

abbrev pub variable_limit : ℕ
variable_limit = 64

abbrev pub statement_depth : ℕ
statement_depth = 32

abbrev pub expression_depth : ℕ
expression_depth = 16

-- how many mutations an update has, and how many queries a transaction lists
abbrev pub list_limit : ℕ
list_limit = 16

-- how many units a run may be given, from 1 on
abbrev pub fuel_limit : ℕ
fuel_limit = 1000000
