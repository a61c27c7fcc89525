pub mod Spelling
pub mod DumpTexts
