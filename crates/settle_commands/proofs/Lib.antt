pub mod SettleVerdicts
pub mod UnsettleVerdicts
