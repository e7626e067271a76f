pub mod Pieces
pub mod Relocating
pub mod Running
pub mod Worked
