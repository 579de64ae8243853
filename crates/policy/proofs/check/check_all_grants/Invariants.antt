-- The rows before row i gave 0, and what is takable is takable for the last of them.
use Rattle.std.proofs.Common.{◌≡◌, ◌≤◌}
use Rattle.model.specs.Number.{first_below}
use Rattle.model.specs.Policy.{grants_number}
use Rattle.policy.specs.Takable.{Takable}
use Rattle.policy.proofs.check.check_all_grants.Given as goal

abbrev pub invariant-loop-i : goal.invariant-loop-i
invariant-loop-i l = (l.last ≤ l.i) × (first_below (grants_number l.policy) l.i ≡ 0) × Takable l.policy l.last l.takable
