pub mod Air
pub mod Names
pub mod Seen
pub mod Simulated
pub mod inner
