pub mod UntouchedEntries
pub mod CodeSegments
pub mod StandingJumps
pub mod DisplacedWork
