pub mod Master
pub mod Table
