pub mod Limbs
pub mod Numbers
pub mod Times
pub mod Chunks
pub mod Put
pub mod Four
pub mod Hexadecimal
pub mod Number
