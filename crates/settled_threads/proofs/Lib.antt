pub mod BackSteps
pub mod BackRuns
pub mod StubThreads
pub mod FileGuests
pub mod FollowedThreads
pub mod LoadedThreads
