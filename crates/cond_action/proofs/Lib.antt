pub mod CodeLengths
pub mod ListedConditions
