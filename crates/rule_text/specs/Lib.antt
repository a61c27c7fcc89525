pub mod Faults
pub mod Forms
pub mod TextOf
pub mod inner
