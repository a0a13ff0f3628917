pub mod Position
pub mod Laws
pub mod Examples
