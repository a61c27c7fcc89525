pub mod Book
pub mod Calls
pub mod Greatest
pub mod Meaning
pub mod StandsFor
pub mod inner
