pub mod Answers
pub mod LoadAnswers
pub mod ThreadsAnswers
pub mod Patching
pub mod Forms
pub mod UnpatchAnswers
pub mod Unpatching
