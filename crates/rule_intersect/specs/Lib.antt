pub mod Joining
pub mod Subchannels
pub mod Tables
pub mod Tuples
pub mod inner
