pub mod LoadSegment
pub mod Accepted
