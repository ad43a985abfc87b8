pub mod Listed
pub mod Equality
pub mod Zeros
pub mod Entry
pub mod Questions
