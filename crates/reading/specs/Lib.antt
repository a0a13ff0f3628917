pub mod Source
pub mod Standing
pub mod Does
pub mod Turns
pub mod Leaves
