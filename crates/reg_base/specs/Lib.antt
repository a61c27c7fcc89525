pub mod Appended
pub mod Causes
pub mod Files
pub mod Memory
pub mod Streams
pub mod Texts
