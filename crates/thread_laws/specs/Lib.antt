pub mod Beginning
pub mod ThreadsBegin
pub mod EachRunWith
pub mod WorkedGuest
pub mod WorkedBirth
pub mod WorkedRuns
pub mod Overtaken
pub mod GoingOn
