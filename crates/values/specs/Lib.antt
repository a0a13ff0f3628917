pub mod Digits
pub mod Kept
