-- The rows of the roles that are not left are put together.
use Rattle.model.specs.Policy.{members, takes}
use Rattle.shared.specs.Words.{United}
use Rattle.meaning.proofs.least.add_rows.Given as goal

abbrev pub invariant-loop-rest : goal.invariant-loop-rest
invariant-loop-rest l = United (takes l.policy) l.some l.rest l.initial.seen l.seen × United (members l.policy) l.some l.rest l.initial.bits l.bits

-- proposed from the loop's first test
abbrev pub decreases-loop-rest : goal.decreases-loop-rest
decreases-loop-rest l = l.rest
