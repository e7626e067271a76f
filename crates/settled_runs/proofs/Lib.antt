mod TellingSteps
mod WordsBehind
mod StubRuns
mod StartedFiles
pub mod BesideRuns
mod DeliveredRuns
pub mod QuietStub
mod PatchedFiles
pub mod StartedRewritings
pub mod LoadedVectors
