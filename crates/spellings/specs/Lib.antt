pub mod Spelled
pub mod Names
