pub mod Stands
pub mod Passing
pub mod Counting
pub mod Holds
pub mod HoldsDevices
pub mod InForce
