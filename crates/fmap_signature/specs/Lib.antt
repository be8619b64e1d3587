pub mod Signatures
pub mod Table
