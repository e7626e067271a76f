pub mod Conditions
pub mod Codes
pub mod CondLists
