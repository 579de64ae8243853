use Rattle.std.proofs.Common.{rules}
use Rattle.meaning.proofs.ReachLaws.{above_laws, far_laws}
use Rattle.meaning.proofs.least.with_above.Goals as goal

pub takes_of-requires : goal.takes_of-requires
takes_of-requires c = search (rules, far_laws, above_laws)

pub members_of-bits-requires : goal.members_of-bits-requires
members_of-bits-requires c = search (rules, far_laws, above_laws)

pub loop-left-init : goal.loop-left-init
loop-left-init c = search (rules, far_laws, above_laws)

pub bounds-seen-j : goal.bounds-seen-j
bounds-seen-j c = search (rules, far_laws, above_laws)

pub bounds-done-j : goal.bounds-done-j
bounds-done-j c = search (rules, far_laws, above_laws)

pub bounds-sets-j : goal.bounds-sets-j
bounds-sets-j c = search (rules, far_laws, above_laws)

pub loop-left-smaller : goal.loop-left-smaller
loop-left-smaller c = search (rules, far_laws, above_laws)

pub loop-left-preserved : goal.loop-left-preserved
loop-left-preserved c = search (rules, far_laws, above_laws)
