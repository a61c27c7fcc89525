-- What private functions alone cite.
pub mod Held
pub mod Leasts
