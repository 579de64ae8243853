use Rattle.std.proofs.Common.{rules}
use Rattle.meaning.proofs.ReachLaws.{set_laws}
use Rattle.meaning.proofs.least.least_set.Goals as goal

pub with-seen-requires : goal.with-seen-requires
with-seen-requires c = search (rules, set_laws)

pub loop-done-init : goal.loop-done-init
loop-done-init c = search (rules, set_laws)

pub add_rows-requires : goal.add_rows-requires
add_rows-requires c = search (rules, set_laws)

pub loop-done-preserved : goal.loop-done-preserved
loop-done-preserved c = search (rules, set_laws)

pub returns : goal.returns
returns c = search (rules, set_laws)
