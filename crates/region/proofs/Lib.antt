pub mod Orders
pub mod Answered
pub mod Tables
pub mod Regions
pub mod Worked
