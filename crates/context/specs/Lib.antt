pub mod Lists
pub mod Context
pub mod Judge
