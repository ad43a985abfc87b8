pub mod Search
pub mod Group
pub mod Soundness
pub mod Store
pub mod Queries
