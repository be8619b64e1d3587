pub mod Names
pub mod Area
pub mod Table
