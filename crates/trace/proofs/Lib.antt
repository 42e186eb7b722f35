pub mod Parsing
pub mod Processors
pub mod Handed
pub mod Rest
pub mod Ends
pub mod WriteRecord
pub mod Stepped
pub mod Going
