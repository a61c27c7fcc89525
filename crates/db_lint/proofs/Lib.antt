pub mod Leasts
pub mod Noted
pub mod Together
