pub mod Counting
pub mod Taking
pub mod Refusing
pub mod Reading
pub mod Accepting
pub mod Theorems
pub mod Exactly
pub mod Worked
