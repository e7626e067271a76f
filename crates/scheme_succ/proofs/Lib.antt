pub mod AllowedPlans
pub mod ChosenPlans
