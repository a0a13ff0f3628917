pub mod Laws
pub mod Reserved
pub mod Verbatim
