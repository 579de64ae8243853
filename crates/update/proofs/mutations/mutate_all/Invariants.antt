-- The mutations that are left, made of the policy as it is now, give what the whole update gives of the first.
use Rattle.std.proofs.Common.{◌≡◌, ◌+◌, ◌*◌, length}
use Rattle.update.proofs.MutationLaws.{Mutating}
use Rattle.update.proofs.mutations.mutate_all.Given as goal

abbrev pub invariant-loop-i : goal.invariant-loop-i
invariant-loop-i l = (length l.policy ≡ length l.initial.policy) × (length l.index ≡ length l.initial.index) × Mutating l.program l.initial.policy l.at l.initial.index l.policy l.index l.count (l.at + 2 + 3 * l.i) l.i
