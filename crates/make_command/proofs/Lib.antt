pub mod Course
pub mod Ending
pub mod FromMake
pub mod Summing
