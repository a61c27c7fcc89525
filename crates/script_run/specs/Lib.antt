pub mod Output
pub mod Granting
pub mod Taken
pub mod Run
pub mod inner
