pub mod Expressions
pub mod Functions
