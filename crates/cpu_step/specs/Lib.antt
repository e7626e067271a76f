pub mod Changing
pub mod Facts
pub mod Stepping
pub mod Steps
pub mod Kept
pub use Rattle.pun_base.specs.Memory
