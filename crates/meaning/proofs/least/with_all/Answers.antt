use Rattle.std.proofs.Common.{arith, rules, ◌<◌, length}
use Rattle.meaning.proofs.ReachLaws.{far_laws, on_laws}
use Rattle.meaning.proofs.least.with_all.Goals as goal

pub offset_bounds-seen-j : goal.offset_bounds-seen-j
offset_bounds-seen-j c = let h : c.highest-j.result < length c.args.seen.now = search (rules, far_laws, on_laws) in record { fits = omega arith }

pub bounds-seen-j : goal.bounds-seen-j
bounds-seen-j c = search (rules, far_laws, on_laws)

pub offset_bounds-done-j : goal.offset_bounds-done-j
offset_bounds-done-j c = let h : c.highest-j.result < length c.args.done.now = search (rules, far_laws, on_laws) in record { fits = omega arith }

pub bounds-done-j : goal.bounds-done-j
bounds-done-j c = search (rules, far_laws, on_laws)

pub offset_bounds-sets-j : goal.offset_bounds-sets-j
offset_bounds-sets-j c = let h : c.highest-j.result < length c.args.sets.now = search (rules, far_laws, on_laws) in record { fits = omega arith }

pub bounds-sets-j : goal.bounds-sets-j
bounds-sets-j c = search (rules, far_laws, on_laws)

pub loop-left-smaller : goal.loop-left-smaller
loop-left-smaller c = search (rules, far_laws, on_laws)

pub loop-left-preserved : goal.loop-left-preserved
loop-left-preserved c = search (rules, far_laws, on_laws)

pub returns-clause-whole : goal.returns-clause-whole
returns-clause-whole c = search (rules, far_laws, on_laws)
