-- What private functions alone cite.
pub mod Checking
pub mod Deciding
pub mod DriverHints
pub mod Elements
pub mod HintsTaken
pub mod Outcomes
pub mod RulesSet
pub mod Removals
pub mod Settings
pub mod Starting
pub mod Sweeping
