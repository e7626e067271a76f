pub mod BareLists
pub mod BareRunning
