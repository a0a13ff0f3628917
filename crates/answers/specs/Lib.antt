pub mod Parts
pub mod Rules
pub mod Steps
pub mod Laws
pub mod Same
pub mod Programs
