pub mod Number
pub mod Bytes
pub mod Tests
pub mod Lists
pub mod Printable
