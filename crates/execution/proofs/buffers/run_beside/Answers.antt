use Rattle.execution.proofs.BufferLaws.{copy_large}
use Rattle.execution.proofs.buffers.run_beside.Goals as goal

pub run_within-requires-2-clause-copy : goal.run_within-requires-2-clause-copy
run_within-requires-2-clause-copy g c = copy_large _ _ _ _ _ c.requires.admitted
