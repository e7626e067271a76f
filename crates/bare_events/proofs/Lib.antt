pub mod KilledRuns
pub mod EventStates
pub mod BareRuns
pub mod CountLists
pub mod WhenLists
pub mod BareCodes
