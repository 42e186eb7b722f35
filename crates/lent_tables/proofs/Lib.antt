pub mod Rows
pub mod Made
pub mod Outside
pub mod RecordsAt
pub mod Fields
pub mod Slices
pub mod Drops
pub mod Parts
