pub mod Tests
pub mod Finds
pub mod OrderLaws
pub mod BlockIdLaws
pub mod ListLaws
