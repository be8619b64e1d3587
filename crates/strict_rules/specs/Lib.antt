pub mod Strict
pub mod Slots
pub mod Table
