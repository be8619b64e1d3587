pub mod Numbers
pub mod Answers
pub mod Listing
pub mod Worked
