pub mod Events
pub mod Trampolines
pub mod Atomic
pub mod Worked
pub mod EventLists
pub mod Recording
pub mod Running
