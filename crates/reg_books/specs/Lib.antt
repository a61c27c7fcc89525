pub mod Slots
pub mod Calls
pub mod DriverRows
pub mod Told
pub mod Entries
pub mod Lists
pub mod Sparing
