pub mod Writing
pub mod Writes
pub mod Around
pub mod Worked
