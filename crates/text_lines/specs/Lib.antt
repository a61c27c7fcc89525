pub mod LineFaults
pub mod Lines
pub mod Spelling
pub mod inner
