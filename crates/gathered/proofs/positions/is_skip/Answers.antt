use Rattle.std.proofs.Common.{◌≡◌, refl, ◌∙◌, eqb}
use Rattle.program.specs.declared.codes.Statement.{Statement}
use Rattle.program.specs.declared.codes.Statement.TheVariants.{Skip, Assign, Block, If, While, Query, Update, Transaction}
use Rattle.program.specs.contracts.codes.StatementPartialEq.TheImpl.{eq-value}
use Rattle.program.specs.Codes.{statement_byte}
use Rattle.gathered.proofs.PositionLaws.{is_skip_of}
use Rattle.gathered.proofs.positions.is_skip.Goals as goal

same_skip : (c : Statement) → eq-value.it c Skip ≡ eqb (statement_byte c) 0
same_skip Skip = refl
same_skip Assign = refl
same_skip Block = refl
same_skip If = refl
same_skip While = refl
same_skip Query = refl
same_skip Update = refl
same_skip Transaction = refl

pub returns : goal.returns
returns c = c.eq.ensures ∙ is_skip_of _ _ same_skip _ _ c.statement_at.ensures
