pub mod CommonLists
pub mod Notes
pub mod inner
