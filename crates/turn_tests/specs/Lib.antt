pub mod LoaderFiles
