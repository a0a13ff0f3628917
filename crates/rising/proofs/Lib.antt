pub mod Family
pub mod Rules
pub mod Steps
pub mod Programs
pub mod Readers
pub mod Statements
pub mod Files
pub mod Parsed
