pub mod Values
pub mod Rules
pub mod Commands
pub mod Drafts
pub mod Fields
pub mod Requests
pub mod Errors
pub mod inner
