pub mod SettleAnswers
pub mod UnsettleAnswers
pub mod Settling
