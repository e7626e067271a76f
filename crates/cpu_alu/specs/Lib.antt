pub mod Widths
pub mod Sums
pub mod Shifts
pub mod Outcome
pub mod Arithmetic
pub mod FlagWord
pub mod Worked
pub mod Laws
