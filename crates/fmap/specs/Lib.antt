pub mod Fmap
pub mod Header
pub mod Table
