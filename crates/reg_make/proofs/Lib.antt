pub mod Left
pub mod DatabaseMade
