pub mod SetLaws
pub mod UnionLaws
pub mod ByteLaws
