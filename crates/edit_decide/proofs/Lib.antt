pub mod ContainsMagic
pub mod Choices
pub mod Worked
