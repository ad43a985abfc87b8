pub mod Group
pub mod Soundness
