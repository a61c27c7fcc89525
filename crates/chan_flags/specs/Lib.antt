pub mod ByRecords
pub mod Fits
pub mod Lists
pub mod Profiles
pub mod Records
pub mod Verdicts
pub mod inner
