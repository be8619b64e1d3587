pub mod Searching
pub mod Exactly
pub mod Worked
