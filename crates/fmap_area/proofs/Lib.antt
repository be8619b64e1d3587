pub mod Records
pub mod Naming
pub mod Facts
pub mod Exactly
pub mod Worked
