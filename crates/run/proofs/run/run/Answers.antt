use Rattle.run.proofs.RunLaws.{refused_verdict}
use Rattle.run.proofs.run.run.Goals as goal

pub returns-in-Err : goal.returns-in-Err
returns-in-Err c = refused_verdict _ _ _ _ _ _ _ _ c.in-Err.ensures c.number.ensures c.refusal.ensures
