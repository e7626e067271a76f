pub mod ThreadConditions
pub mod LineSize
pub mod SitesOfLines
pub mod ThreadSoundness
pub mod LinesAfterTurns
pub mod GuestsOfTurns
pub mod LoadedThreadFiles
pub mod WorkedGuest
pub mod PlanCodes
pub mod ThreadPlans
pub mod RewriteAnswers
pub mod ThreadVerdicts
mod WorkedFile
mod WorkedImage
