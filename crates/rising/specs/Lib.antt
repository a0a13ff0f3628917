pub mod Linked
pub mod Weights
pub mod Forest
pub mod Sound
pub mod Family
