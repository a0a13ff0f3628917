pub mod Cst
pub mod Laws
pub mod Payload
