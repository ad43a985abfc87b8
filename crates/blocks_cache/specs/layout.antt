pub mod Cache
pub mod Parts
pub mod Edges
