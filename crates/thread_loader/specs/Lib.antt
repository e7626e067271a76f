pub mod Followed
pub mod Rewriting
