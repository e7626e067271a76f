pub mod LeastPlacePlans
