pub mod Group
pub mod Import
