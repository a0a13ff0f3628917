-- Laws of the definition of a text's tokens, which crate scan has, and what a function answers in its terms.
pub mod First
pub mod Cases
pub mod Pairs
pub mod At
pub mod Next
