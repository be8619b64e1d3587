pub mod Stage
pub mod Accepted
