pub mod Traced
pub mod Marks
pub mod Records
