pub mod Region
pub mod Refusals
pub mod Table
