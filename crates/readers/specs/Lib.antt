pub mod Readers
pub mod Level
