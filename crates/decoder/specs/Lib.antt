pub mod Chars
pub mod Pieces
pub mod Hex
pub mod Fours
pub mod Decodes
pub mod Plain
pub mod Inside
pub mod StringValue
