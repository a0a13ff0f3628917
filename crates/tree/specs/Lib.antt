pub mod Stored
pub mod Grown
pub mod Rows
pub mod Examples
