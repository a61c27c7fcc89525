pub mod Cases
pub mod NeverEmpty
