pub mod Bitmaps
pub mod Locking
pub mod Pages
