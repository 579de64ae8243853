mod ExpressionLaws
mod StatementLaws
mod FileLaws
