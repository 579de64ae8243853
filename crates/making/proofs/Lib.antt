pub mod ExpressionLaws
pub mod BoundLaws
