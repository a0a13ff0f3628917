pub mod Follow
pub mod Points
pub mod Table
pub mod Walk
