pub mod Tells
pub mod Given
pub mod Cleared
pub mod RowReads
pub mod Written
