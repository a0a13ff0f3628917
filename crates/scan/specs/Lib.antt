-- To believe: Bytes and Lexer, the definition of a text's tokens; of Comments `behind` and `most_behind`, which say how far a comment is read in a
-- text that is too long. All others are laws about it.
pub mod Bytes
pub mod Lexer
pub mod Laws
pub mod Comments
pub mod Marked
pub mod Longest
pub mod Fits
