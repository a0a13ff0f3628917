-- To believe: Lex, what the public calls answer and leave, over the definition of a text's tokens, which crate scan has and
-- which is passed on. Examples computes cases of document 01. The others are laws.
pub use Rattle.scan.specs.Bytes
pub use Rattle.scan.specs.Lexer
pub mod Lex
pub mod Examples
pub mod Walk
pub mod Calls
pub mod Left
