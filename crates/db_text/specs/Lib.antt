pub mod Printed
pub mod PrintedNumbers
pub mod PrintedRules
pub mod inner
