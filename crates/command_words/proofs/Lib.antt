pub mod CommandForms
pub mod CommandLevels
pub mod CommandReading
pub mod ParsedWords
pub mod ReservedRanges
