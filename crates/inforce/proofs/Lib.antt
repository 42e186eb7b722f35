pub mod Left
pub mod Walking
pub mod Leading
pub mod Printing
pub mod AtEnd
