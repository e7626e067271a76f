pub mod ZeroFilledLists
pub mod RegionCells
pub mod RegionPlaces
pub mod RegionSpans
pub mod MemoryFrames
pub mod Readback
pub mod AddedRegions
pub mod StandingBytes
