pub mod FromPack
pub mod Fronts
pub mod Lengths
pub mod Packed
pub mod Reading
pub mod Stopping
pub mod Taking
