pub mod Typed
pub mod Replies
pub mod inner
