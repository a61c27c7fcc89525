pub mod Order
pub mod Records
pub mod LaidOut
pub mod inner
