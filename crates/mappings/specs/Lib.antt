pub mod Mappings
pub mod Listed
