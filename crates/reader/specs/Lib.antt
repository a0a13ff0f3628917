pub mod Read
pub mod Cases
pub mod Kinds
pub mod Rows
pub mod Demand
pub mod Marked
pub mod Reserved
