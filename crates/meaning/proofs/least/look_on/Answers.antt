use Rattle.std.proofs.Common.{rules}
use Rattle.meaning.proofs.ReachLaws.{told_laws, up_laws}
use Rattle.meaning.proofs.least.look_on.Goals as goal

pub loop-i-preserved : goal.loop-i-preserved
loop-i-preserved c = (search (rules, up_laws), search (rules, told_laws))
