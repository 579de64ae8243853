use Rattle.execution.proofs.BufferLaws.{large_nodes, large_words}
use Rattle.execution.proofs.buffers.run_admitted.Goals as goal

pub run_beside-requires-2-clause-nodes : goal.run_beside-requires-2-clause-nodes
run_beside-requires-2-clause-nodes c = large_nodes _ _ _ _ _ c.requires

pub run_beside-requires-2-clause-words : goal.run_beside-requires-2-clause-words
run_beside-requires-2-clause-words c = large_words _ _ _ _ _ c.requires
