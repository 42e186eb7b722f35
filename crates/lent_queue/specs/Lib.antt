pub mod Actions
pub mod Turns
