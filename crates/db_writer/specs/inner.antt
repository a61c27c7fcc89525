-- What private functions alone cite.
pub mod Filed
pub mod Fits
pub mod Gathered
pub mod Keys
pub mod Places
pub mod Planned
