pub mod Answers
pub mod Proved
pub mod Descends
pub mod Walks
