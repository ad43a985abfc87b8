pub mod Limits
pub mod Lists
pub mod Order
pub mod BlockId
pub mod Entry
pub mod Questions
