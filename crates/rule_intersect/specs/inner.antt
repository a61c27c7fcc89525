-- What private functions alone cite.
pub mod Own
pub mod Pairs
