pub mod SetBits
pub mod LockEntries
pub mod LockLookups
pub mod LockPagePlaces
pub mod PageUpdates
