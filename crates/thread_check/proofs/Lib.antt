pub mod LinesOfRows
pub mod RulesForThreads
pub mod HeldCode
pub mod PlacesApart
pub mod VerdictsOfLines
pub mod BuiltCode
pub mod LandingJumps
