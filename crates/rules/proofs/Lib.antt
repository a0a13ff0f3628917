pub mod Keys
pub mod Walk
pub mod Whole
pub mod Steps
