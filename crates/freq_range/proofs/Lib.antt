pub mod Deciding
pub mod Firsts
pub mod Joined
pub mod Listed
pub mod Members
pub mod Picked
pub mod Powers
pub mod ToldRules
