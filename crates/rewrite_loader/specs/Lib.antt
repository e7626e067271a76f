pub mod Causes
pub mod Judging
pub mod Writing
pub mod Followed
pub mod Rewrites
