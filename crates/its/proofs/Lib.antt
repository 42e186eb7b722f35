pub mod Writes
pub mod Lending
