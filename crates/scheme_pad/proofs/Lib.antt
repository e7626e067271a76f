pub mod FewestPadsPlans
