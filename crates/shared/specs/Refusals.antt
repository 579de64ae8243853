-- The numbers of refusals, and of what either is refused or not.
use Rattle.std.specs.Prelude.{ℕ, Result, Ok, Err}
use Rattle.model.specs.Number.{accepted, policy_length, policy_mark, policy_range, row_principal, row_owner, row_grants, no_such_role, program_length, program_mark, program_code, program_range, program_depth, flow_transaction, flow_grant, flow_reading, flow_trust, memory_length, fuel_range, fuel_spent}
use Rattle.shared.specs.declared.refusal.Refusal.{Refusal}
use Rattle.shared.specs.declared.refusal.Refusal.TheVariants.{PolicyLength, PolicyMark, PolicyRange, RowPrincipal, RowOwner, RowGrants, NoSuchRole, ProgramLength, ProgramMark, ProgramCode, ProgramRange, ProgramDepth, FlowTransaction, FlowGrant, FlowReading, FlowTrust, MemoryLength, FuelRange, FuelSpent}

-- a refusal's number, that of its name in document 01's table
abbrev pub refusal_number : Refusal → ℕ
refusal_number PolicyLength = policy_length
refusal_number PolicyMark = policy_mark
refusal_number PolicyRange = policy_range
refusal_number RowPrincipal = row_principal
refusal_number RowOwner = row_owner
refusal_number RowGrants = row_grants
refusal_number NoSuchRole = no_such_role
refusal_number ProgramLength = program_length
refusal_number ProgramMark = program_mark
refusal_number ProgramCode = program_code
refusal_number ProgramRange = program_range
refusal_number ProgramDepth = program_depth
refusal_number FlowTransaction = flow_transaction
refusal_number FlowGrant = flow_grant
refusal_number FlowReading = flow_reading
refusal_number FlowTrust = flow_trust
refusal_number MemoryLength = memory_length
refusal_number FuelRange = fuel_range
refusal_number FuelSpent = fuel_spent

-- the number of what either is refused or not, 0 where it is not
abbrev pub outcome_number : {A : Type 0} → Result A Refusal → ℕ
outcome_number (Ok a) = accepted
outcome_number (Err refusal) = refusal_number refusal
