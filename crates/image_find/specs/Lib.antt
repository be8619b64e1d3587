pub mod ImageFind
