-- What private functions alone cite.
pub mod Cursor
pub mod Fitting
pub mod Walking
