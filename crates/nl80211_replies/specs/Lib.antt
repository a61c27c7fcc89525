pub mod Plain
pub mod Dumps
pub mod inner
