pub mod ThreadRules
pub mod LineParts
pub mod ThreadVerdict
pub mod ThreadSoundness
