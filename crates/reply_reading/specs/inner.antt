pub mod Reading
pub mod Values
pub mod Refusals
pub mod Compared
pub mod Frames
pub mod Shown
