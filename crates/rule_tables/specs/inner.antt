-- What private functions alone cite.
pub mod Marks
pub mod Runs
