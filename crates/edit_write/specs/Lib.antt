pub mod EditWrite
