pub mod Values
pub mod Holds
