pub mod ThreadSteps
pub mod SavedInAx
pub mod EventSteps
pub mod MadeSteps
pub mod DoneSteps
pub mod WholeEvents
pub mod Interleaved
