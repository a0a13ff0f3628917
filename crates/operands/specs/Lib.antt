pub mod Number
pub mod Alone
pub mod Turns
pub mod Gathers
