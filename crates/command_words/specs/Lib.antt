pub mod Synopses
pub mod Words
pub mod Named
pub mod ClapForm
