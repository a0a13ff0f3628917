pub mod Row
pub mod Tree
pub mod Chart
pub mod Parser
pub mod Outcome
pub mod Renumbered
pub mod Verbatim
