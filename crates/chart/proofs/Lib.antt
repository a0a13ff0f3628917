pub mod Laws
pub mod Levels
pub mod First
pub mod Rules
pub mod Sound
pub mod Complete
pub mod Errors
pub mod Examples
