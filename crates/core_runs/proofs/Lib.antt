pub mod Drivers
pub mod Each
pub mod Going
pub mod Told
pub mod Turning
