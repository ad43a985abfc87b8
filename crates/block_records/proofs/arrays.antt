pub mod LoopLaws
pub mod ArrayLaws
pub mod ScanLaws
pub mod PlaceLaws
pub mod ListedLaws
