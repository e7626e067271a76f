pub mod Padded
pub mod Order
pub mod Shared
pub mod Bands
pub mod Marked
pub mod Meetings
pub mod SiteTurns
pub mod Spelled
