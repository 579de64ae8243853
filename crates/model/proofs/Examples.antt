-- The worked examples of document 01 that are marked *, in one table with those of program version 2 and one that ties a variable's two label bytes to the sides: they hold of the definitions by computation.
use Prim.Native.Nat.{ℕ, ◌-◌}
use mathlib.Core.Path.{◌≡◌, refl}
use mathlib.Core.List.{List, [], ◌∷◌, ◌++◌}
use Rattle.model.specs.Number.{accepted, program_length, program_mark, flow_reading, flow_trust, fuel_spent, fine, refused, first_below}
use Rattle.model.specs.Bytes.{word, put, starts_with}
use Rattle.model.specs.Policy.{reading, trust, has_mark, row_bytes, row_at, policy_bytes, policy_number, head_number, row_number, principal_number, owner_number, pair_number, grants_number, takes_number, taken_number, viewers, trusters, members, takes, watchers, may_take, may_hold}
use Rattle.model.specs.Meaning.{gather, grown, steps, rounds, column, meanings, meaning, answer, meaning_of}
use Rattle.model.specs.Mutation.{allowed, put_members, put_takes, mutate}
use Rattle.model.specs.Program.{and_then, read_byte, read_below, read_mark, read_many, atom_at, read_atom, read_label, read_query, mutation_at, read_mutation, binary_at, expr_at, read_expr, block_of, assign_at, block_at, if_at, while_at, query_at, update_at, transaction_at, stmt_at, read_stmt, read_body, version, read_program}
use Rattle.model.specs.Order.{fixed_set, includes, base, at_most, join_at_most}
use Rattle.model.specs.Syntax.{quotient, sum}
use Rattle.model.specs.Atoms.{atom_set, holds}
use Rattle.model.specs.Value.{modulus, quotient_by, apply, in_version, value_at, set_value, evaluate}
use Rattle.model.specs.Run
use Rattle.model.specs.Run.{Update, after, charge, mutate_all, broken, loop, attempt, execute, finish, run_body, run}
use Rattle.model.specs.Flow.{label_atom, label, expr_label, atom_label, query_label, list_label, assigned, roles_of, mutated, each_of, listed_in, all_allowed, may_assign, may_update, flow, body_verdict, program_verdict}

-- mark and version of a policy, of a program
abbrev rxt : List ℕ
rxt = 0x52 ∷ 0x58 ∷ 0x54 ∷ 1 ∷ 0 ∷ []

abbrev mark : List ℕ
mark = 0x52 ∷ 0x58 ∷ 0x50 ∷ []

abbrev rxp : List ℕ
rxp = mark ++ 1 ∷ 0 ∷ []

-- a row of one-byte sets
abbrev row : ℕ → ℕ → ℕ → ℕ → ℕ → ℕ → List ℕ
row owner name seen trusted held taken =
    owner ∷ name ∷ seen ∷ 0 ∷ 0 ∷ 0 ∷ trusted ∷ 0 ∷ 0 ∷ 0 ∷ held ∷ 0 ∷ 0 ∷ 0 ∷ taken ∷ 0 ∷ 0 ∷ 0 ∷ 0 ∷ 0 ∷ 0 ∷ 0 ∷ []

-- policy E: two principals; one role of owner 0, which both view and trust, with member 0
abbrev pub policy_e : List ℕ
policy_e = rxt ++ 2 ∷ 1 ∷ row 0 1 3 3 1 0

-- policy F: two principals; two roles, which both view and trust; role 0 takes role 1, role 1 has member 1
abbrev pub policy_f : List ℕ
policy_f = rxt ++ 2 ∷ 2 ∷ row 0 1 3 3 0 2 ++ row 1 1 3 3 2 0

-- two principals; one role of owner 0, which only principal 0 views
abbrev policy_one : List ℕ
policy_one = rxt ++ 2 ∷ 1 ∷ row 0 1 1 3 0 0

-- v0 for everyone and v1 of role 0, then v1 := v0 + 5
abbrev pub first_program : List ℕ
first_program = rxp ++ 2 ∷ 0xff ∷ 0xff ∷ 0 ∷ 0 ∷ 1 ∷ 1 ∷ 2 ∷ 1 ∷ 0 ∷ 0 ∷ 5 ∷ 0 ∷ 0 ∷ 0 ∷ []

-- the same labels, v0 := v1
abbrev leak_program : List ℕ
leak_program = rxp ++ 2 ∷ 0xff ∷ 0xff ∷ 0 ∷ 0 ∷ 1 ∷ 0 ∷ 1 ∷ 1 ∷ []

-- only the trust label of v1 is a role
abbrev trust_program : List ℕ
trust_program = rxp ++ 2 ∷ 0xff ∷ 0xff ∷ 0xff ∷ 0 ∷ 1 ∷ 0 ∷ 1 ∷ 1 ∷ []

-- only the reading label of v1 is a role
abbrev readers_program : List ℕ
readers_program = rxp ++ 2 ∷ 0xff ∷ 0xff ∷ 0 ∷ 0xff ∷ 1 ∷ 0 ∷ 1 ∷ 1 ∷ []

-- a transaction that lists a pair and queries it: if it holds, role 0 no longer takes role 1 and v0 := 1; else skip
abbrev pub change_program : ℕ → ℕ → List ℕ
change_program a b =
    rxp ++ 1 ∷ 0xff ∷ 0xff ∷ 7 ∷ 1 ∷ a ∷ b ∷ 5 ∷ a ∷ b ∷ 2 ∷ 2 ∷ 6 ∷ 1 ∷ 3 ∷ 0 ∷ 1 ∷ 1 ∷ 0 ∷ 0 ∷ 1 ∷ 0 ∷ 0 ∷ 0 ∷ 0 ∷ []

-- v0 for everyone, then v0 := v0 by 10, in a version
abbrev allowance_program : ℕ → List ℕ
allowance_program v = mark ++ v ∷ 0 ∷ 1 ∷ 0xff ∷ 0xff ∷ 1 ∷ 0 ∷ 5 ∷ 1 ∷ 0 ∷ 0 ∷ 10 ∷ 0 ∷ 0 ∷ 0 ∷ []

-- a query that names role 0, and in it v0 := 0
abbrev query_program : List ℕ
query_program = rxp ++ 1 ∷ 0xff ∷ 0xff ∷ 7 ∷ 1 ∷ 0xff ∷ 0 ∷ 5 ∷ 0xff ∷ 0 ∷ 1 ∷ 0 ∷ 0 ∷ 0 ∷ 0 ∷ 0 ∷ 0 ∷ 0 ∷ []

-- policy F once role 0 no longer takes role 1
abbrev pub policy_f' : List ℕ
policy_f' = rxt ++ 2 ∷ 2 ∷ row 0 1 3 3 0 0 ++ row 1 1 3 3 2 0

-- the one update of policy F's runs
abbrev change_f : Update
change_f = record { before = policy_f; after = policy_f' }

-- a memory of one-byte values
abbrev cell : ℕ → List ℕ
cell x = x ∷ 0 ∷ 0 ∷ 0 ∷ []

pub record WorkedExamples : Type 0 where
  -- E is accepted, and role 0 means {0}
  pub policy_E : policy_number policy_e ≡ accepted
  pub meaning_E : meaning_of policy_e 0 ≡ answer 0 1
  -- the first program under E is accepted
  pub first_accepted : program_verdict policy_e first_program ≡ fine
  -- v0 := v1 is 17; with only the trust label a role, 18
  pub reading_refused : program_verdict policy_e leak_program ≡ refused flow_reading 10
  pub trust_refused : program_verdict policy_e trust_program ≡ refused flow_trust 10
  -- with only the reading label a role, 17: those in the first label's set, {0}, may read v1, those in the second's trust it
  pub readers_refused : program_verdict policy_e readers_program ≡ refused flow_reading 10
  pub readers : atom_set policy_e (label readers_program reading 1) ≡ 1
  pub those_who_trust : atom_set policy_e (label readers_program trust 1) ≡ 3
  -- the programs of policy F are accepted
  pub change_accepted : program_verdict policy_f (change_program 0 1) ≡ fine
  pub reversed_accepted : program_verdict policy_f (change_program 1 0) ≡ fine
  -- a query on a role viewed by principal 0 only, then an assignment for everyone inside it, is 17
  pub query_refused : program_verdict policy_one query_program ≡ refused flow_reading 15
  -- its run on 7, 0 gives 7, 12 with one unit
  pub first_run : run policy_e first_program (cell 7 ++ cell 0) 1000000
      ≡ record { number = accepted; units = 1; policy = policy_e; memory = cell 7 ++ cell 12; updates = [] }
  -- policy F: one rollback, v0 unchanged, 6 units, one update; with fuel 5 spent
  pub change_run : run policy_f (change_program 0 1) (cell 9) 1000000
      ≡ record { number = accepted; units = 6; policy = policy_f'; memory = cell 9; updates = change_f ∷ [] }
  pub change_spent : run policy_f (change_program 0 1) (cell 9) 5
      ≡ record { number = fuel_spent; units = 5; policy = policy_f; memory = cell 9; updates = change_f ∷ [] }
  -- the pair reversed: no rollback, v0 = 1, 4 units
  pub reversed_run : run policy_f (change_program 1 0) (cell 9) 1000000
      ≡ record { number = accepted; units = 4; policy = policy_f'; memory = cell 1; updates = change_f ∷ [] }
  -- in version 1, -7 by 2 is -3; 2147483647 + 1 is -2147483648
  pub quotient_example : apply (in_version 1 quotient) (modulus - 7) 2 ≡ modulus - 3
  pub sum_example : apply sum 2147483647 1 ≡ modulus - 2147483648
  -- in version 2 to the nearest, halves away from zero: 7 by 2 is 4, -7 by 2 is -4, 5 by 10 is 1, -1 by 3 is 0
  pub half_up : apply (in_version 2 quotient) 7 2 ≡ 4
  pub half_down : apply (in_version 2 quotient) (modulus - 7) 2 ≡ modulus - 4
  pub half_of_one : apply (in_version 2 quotient) 5 10 ≡ 1
  pub third_down : apply (in_version 2 quotient) (modulus - 1) 3 ≡ 0
  -- in both, 7 by 0 is 0 and -2147483648 by -1 is -2147483648
  pub by_zero_first : apply (in_version 1 quotient) 7 0 ≡ 0
  pub by_zero_second : apply (in_version 2 quotient) 7 0 ≡ 0
  pub lowest_first : apply (in_version 1 quotient) (modulus - 2147483648) (modulus - 1) ≡ modulus - 2147483648
  pub lowest_second : apply (in_version 2 quotient) (modulus - 2147483648) (modulus - 1) ≡ modulus - 2147483648
  -- a tenth of 25 is 2 by version 1 and 3 by version 2
  pub allowance_first : run policy_e (allowance_program 1) (cell 25) 1
      ≡ record { number = accepted; units = 1; policy = policy_e; memory = cell 2; updates = [] }
  pub allowance_second : run policy_e (allowance_program 2) (cell 25) 1
      ≡ record { number = accepted; units = 1; policy = policy_e; memory = cell 3; updates = [] }
  -- version bytes are read one by one: version 2 may end early, version 3 and a second byte that is not 0 are 11
  pub version_cut : program_verdict policy_e (mark ++ 2 ∷ []) ≡ refused program_length 4
  pub version_3 : program_verdict policy_e (mark ++ 3 ∷ []) ≡ refused program_mark 3
  pub version_258 : program_verdict policy_e (mark ++ 2 ∷ 1 ∷ []) ≡ refused program_mark 4

pub worked_examples : WorkedExamples
unfolding first_below word starts_with has_mark row_bytes row_at policy_bytes policy_number head_number row_number principal_number owner_number pair_number grants_number takes_number taken_number viewers trusters members takes watchers may_take may_hold gather grown steps rounds column meanings meaning meaning_of allowed and_then read_byte read_below read_mark read_many atom_at read_atom read_label read_query mutation_at read_mutation binary_at expr_at read_expr block_of assign_at block_at if_at while_at query_at update_at transaction_at stmt_at read_stmt read_body version read_program fixed_set includes base at_most join_at_most label_atom label expr_label atom_label query_label list_label assigned roles_of mutated each_of listed_in all_allowed may_assign may_update flow body_verdict program_verdict atom_set holds put put_members put_takes mutate quotient_by apply value_at set_value evaluate after charge Run.and_then mutate_all broken loop attempt execute finish run_body run
worked_examples =
    record {
      policy_E = refl;
      meaning_E = refl;
      first_accepted = refl;
      reading_refused = refl;
      trust_refused = refl;
      readers_refused = refl;
      readers = refl;
      those_who_trust = refl;
      change_accepted = refl;
      reversed_accepted = refl;
      query_refused = refl;
      first_run = refl;
      change_run = refl;
      change_spent = refl;
      reversed_run = refl;
      quotient_example = refl;
      sum_example = refl;
      half_up = refl;
      half_down = refl;
      half_of_one = refl;
      third_down = refl;
      by_zero_first = refl;
      by_zero_second = refl;
      lowest_first = refl;
      lowest_second = refl;
      allowance_first = refl;
      allowance_second = refl;
      version_cut = refl;
      version_3 = refl;
      version_258 = refl;
    }
