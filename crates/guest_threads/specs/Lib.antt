pub mod FromTurns
pub mod WorkedGuest
pub mod ThreadPlanning
pub mod ThreadCalls
pub mod ThreadRewriting
pub mod WorkedFile
