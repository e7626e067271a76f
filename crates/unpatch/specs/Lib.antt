pub mod Undone
pub mod Refusals
pub mod Laws
