pub mod Jumps
pub mod Standing
pub mod Windows
