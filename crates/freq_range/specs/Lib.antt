pub mod Ascending
pub mod Channels
pub mod First
pub mod Flags
pub mod Power
pub mod Valid
pub mod inner
