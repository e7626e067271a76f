pub mod WrittenLoaders
pub mod CallAnswers
pub mod LoaderVerdicts
