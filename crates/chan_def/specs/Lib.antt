pub mod Covered
pub mod Kinds
pub mod Same
pub mod Words
