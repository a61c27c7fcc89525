pub mod Status
pub mod Devices
pub mod Reports
pub mod Conversions
pub mod Converted
pub mod inner
