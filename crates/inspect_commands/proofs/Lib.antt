pub mod StepVerdicts
pub mod CheckVerdicts
pub mod PlainRuns
