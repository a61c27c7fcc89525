pub mod InRange
pub mod Fitting
pub mod DumpsInRange
