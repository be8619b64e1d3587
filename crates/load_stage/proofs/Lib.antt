pub mod Theorems
pub mod Worked
