pub mod Answering
pub mod Streaming
pub mod Wire
pub mod Together
pub mod inner
