use Rattle.model.specs.Value.{value_at}
use Rattle.turn.proofs.MemoryLaws.{Filled}
use Rattle.turn.proofs.memory.load.Given as goal

abbrev pub invariant-loop-x : goal.invariant-loop-x
invariant-loop-x l = Filled (value_at l.memory) l.x l.initial.words l.words
