pub mod AllowedPlans
pub mod ChosenPlans
pub mod WrittenRuns
