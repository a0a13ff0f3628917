pub mod Decls
pub mod Answers
