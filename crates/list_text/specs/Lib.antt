pub mod Blanks
pub mod Digits
pub mod PlainLines
pub mod Lines
pub mod Lists
pub mod ActionWords
pub mod Words
pub mod Laws
