use Rattle.turn.proofs.MemoryLaws.{Filled}
use lib.ListN.{get_or}
use Rattle.turn.proofs.memory.copy_bytes.Given as goal

abbrev pub invariant-loop-i : goal.invariant-loop-i
invariant-loop-i l = Filled (λ k. get_or l.from k 0) l.i l.initial.to l.to
