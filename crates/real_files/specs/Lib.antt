pub mod Streams
pub mod FileDesk
pub mod KnownFiles
