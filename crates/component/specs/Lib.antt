pub mod Names
pub mod Sums
pub mod Component
pub mod Table
