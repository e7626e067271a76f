pub mod HeaderFields
pub mod SegmentsByAddress
pub mod OriginalSegments
pub mod RestoredBytes
pub mod UndoneFiles
pub mod BytesAndRunsSoFar
pub mod RestoreAnswers
pub mod LeastMissingAddress
