pub mod Vector
pub mod Laws
pub mod Quiet
pub mod Patched
pub mod Started
pub mod Loaded
