pub mod Utf8
pub mod Bytes
pub mod Rows
pub mod Laws
pub mod Examples
pub mod Ascii
