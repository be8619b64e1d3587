pub mod Edit
pub mod Table
