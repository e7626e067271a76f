pub mod ByteNumbers
pub mod TargetPlaces
pub mod AllowedTargets
pub mod JumpsInMemory
