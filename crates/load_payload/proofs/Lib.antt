pub mod RecordTypes
pub mod RecordList
pub mod Accepting
pub mod Theorems
pub mod Worked
