pub mod RegionsOutsideImages
pub mod MemorySoFar
pub mod MoreItems
