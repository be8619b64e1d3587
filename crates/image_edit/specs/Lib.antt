pub mod ImageEdit
