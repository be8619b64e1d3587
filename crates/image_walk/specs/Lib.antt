pub mod ImageWalk
