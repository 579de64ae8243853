use Rattle.std.proofs.Common.{◌≡◌, ◌*◌, length}
use Rattle.model.proofs.Memory.{stored}
use Rattle.turn.proofs.memory.store.Given as goal

abbrev pub invariant-loop-x : goal.invariant-loop-x
invariant-loop-x l = (length l.memory ≡ 4 * l.vars) × (l.memory ≡ stored l.words l.initial.memory l.x)
