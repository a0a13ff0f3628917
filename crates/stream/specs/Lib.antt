pub mod Skip
pub mod Trivia
pub mod Commands
pub mod Eaten
pub mod Delimited
