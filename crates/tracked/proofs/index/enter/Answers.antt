use Rattle.std.proofs.Common.{rules}
use Rattle.tracked.proofs.IndexLaws.{enterings}
use Rattle.tracked.proofs.index.enter.Goals as goal

pub overflow_add-k : goal.overflow_add-k
overflow_add-k c = search (rules, enterings)

pub offset_bounds-index-k : goal.offset_bounds-index-k
offset_bounds-index-k c = search (rules, enterings)

pub bounds-index-k : goal.bounds-index-k
bounds-index-k c = search (rules, enterings)

pub offset_bounds-index-k-in-loop-rest : goal.offset_bounds-index-k-in-loop-rest
offset_bounds-index-k-in-loop-rest c = search (rules, enterings)

pub bounds-index-k-in-loop-rest : goal.bounds-index-k-in-loop-rest
bounds-index-k-in-loop-rest c = search (rules, enterings)

pub loop-rest-preserved : goal.loop-rest-preserved
loop-rest-preserved c = search (rules, enterings)
