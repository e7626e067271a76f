pub mod Pages
pub mod Grouping
pub mod Finding
pub mod Occupancy
pub mod Joining
pub mod Laws
