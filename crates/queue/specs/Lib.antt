pub mod Ongoing
