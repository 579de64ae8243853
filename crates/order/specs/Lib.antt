pub mod Table
pub mod Base
pub mod Learn
