pub mod Power
pub mod Refusing
pub mod Facts
pub mod Worked
pub mod Exactly
