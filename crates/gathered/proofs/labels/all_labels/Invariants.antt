-- The loop keeps this: the labels of all variables below x are added.
use Rattle.gathered.specs.Labels.{AllAdded}
use Rattle.gathered.proofs.labels.all_labels.Given as goal

abbrev pub invariant-loop-x : goal.invariant-loop-x
invariant-loop-x l = AllAdded l.program l.x l.initial.labels l.labels
