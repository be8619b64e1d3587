pub mod Corruption
pub mod EditsDone
pub mod Table
pub mod Parts
pub mod Limits
