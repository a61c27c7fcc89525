pub mod Answered
pub mod Driven
pub mod Given
pub mod Turns
