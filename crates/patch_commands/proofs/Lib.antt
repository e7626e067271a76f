pub mod DoneStatuses
pub mod TextVerdicts
pub mod Rewritings
pub mod InEachForm
pub mod ThreadRewritings
pub mod UnpatchVerdicts
