pub mod Fitting
pub mod Finding
pub mod Answering
pub mod Bench
pub mod Worked
