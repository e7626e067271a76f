pub mod Beside
pub mod FileRuns
pub mod Loaded
