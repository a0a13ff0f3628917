pub mod Expr
pub mod Laws
pub mod Rings
