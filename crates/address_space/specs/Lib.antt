pub mod Free
pub mod Fit
pub mod Windows
pub mod Ranges
pub mod Longest
pub mod Blocks
pub mod Marks
