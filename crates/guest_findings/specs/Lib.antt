pub mod Tallies
pub mod Findings
pub mod SeenAlike
pub mod Generating
pub mod GuestLaws
