pub mod Packing
pub mod Pack
pub mod inner
