-- What private functions alone cite.
pub mod Kept
pub mod Views
pub mod Written
