pub mod LoadedGuests
pub mod LoaderVerdicts
