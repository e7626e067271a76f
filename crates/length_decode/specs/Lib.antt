pub mod Prefix
pub mod Rules
pub mod Spelling
pub mod Parse
pub mod Laws
pub mod Reading
pub mod Forms
