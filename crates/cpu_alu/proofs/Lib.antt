pub mod SumTotals
pub mod ShiftResults
pub mod ResultBounds
pub mod DifferenceFlags
pub mod FlagBits
