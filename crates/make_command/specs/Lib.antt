pub mod Counts
pub mod Make
pub mod inner
