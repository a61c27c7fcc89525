pub mod Element
pub mod Last
pub mod Table
