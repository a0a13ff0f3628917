pub mod Spelling
pub mod Numbers
pub mod Strings
pub mod Reserved
pub mod Laws
pub mod Written
pub mod Examples
