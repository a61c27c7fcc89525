pub mod FromWire
pub mod Lengths
pub mod Turning
pub mod Streaming
pub mod Stopping
pub mod Together
