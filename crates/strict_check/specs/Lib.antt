pub mod StrictCheck
