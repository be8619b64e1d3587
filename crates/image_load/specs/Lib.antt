pub mod ImageLoad
