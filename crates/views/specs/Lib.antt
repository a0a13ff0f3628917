pub mod Declarations
pub mod Example
pub mod Imports
pub mod Statements
