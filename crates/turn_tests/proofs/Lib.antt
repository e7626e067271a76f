pub mod LoadedFiles
