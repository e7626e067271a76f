pub mod ListFronts
