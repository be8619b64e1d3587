pub mod Naming
pub mod Summing
pub mod Judging
pub mod Exactly
pub mod Bearing
pub mod Opened
pub mod Worked
