pub mod Collected
pub mod Entered
pub mod OneDatabase
pub mod OneFault
pub mod Records
pub mod Stops
pub mod Total
