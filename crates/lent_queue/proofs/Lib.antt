pub mod Words
pub mod Running
pub mod Queued
pub mod SmallNumbers
pub mod ReadBack
