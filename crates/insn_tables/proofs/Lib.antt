pub mod TableAgreement
