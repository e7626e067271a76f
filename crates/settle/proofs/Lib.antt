pub mod FrontParts
pub mod MovedImages
pub mod TakenFiles
mod HighestBases
mod MovedSections
mod FilledFronts
mod SettlingSteps
pub mod Undoing
mod WorkedFile
