-- To believe: nothing beyond crate lexer, whose contract `lex` has. "One computed test over each table shows at every entry the class, or
-- the next state, that a rule written from lexer.rs gives, and on every text both lexers give the same words and refusals." (01, W6): Rule is
-- that rule. Tables and Keys hold the tables to it; Alike shows that bytes of a class are alike. Walk is what following the rule makes of a
-- text. In proofs/, Whole shows that it is the definition's token, and Steps are laws of the code.
pub mod Rule
pub mod Tables
pub mod Keys
pub mod Alike
pub mod Walk
