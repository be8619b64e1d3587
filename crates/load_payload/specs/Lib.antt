pub mod Payload
pub mod Accepted
