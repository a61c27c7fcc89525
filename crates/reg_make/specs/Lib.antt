pub mod Draws
pub mod Domains
pub mod Made
pub mod inner
