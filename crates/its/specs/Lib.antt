pub mod Prepared
pub mod Promises
