pub mod Checking
pub mod Names
pub mod Marks
pub mod Directories
pub mod Scans
pub mod Answers
pub mod Worked
