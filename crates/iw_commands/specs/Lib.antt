pub mod Scripts
pub mod Cutting
pub mod Printed
