pub mod Planned
pub mod Reversal
pub mod SettledFiles
pub mod SettledThreads
pub mod Commands
