pub mod Any
pub mod Laws
pub mod View
pub mod Ways
