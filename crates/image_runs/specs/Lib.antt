pub mod Listed
pub mod Quiet
pub mod Deliveries
pub mod Starting
