pub mod CacheLaws
pub mod CallLaws
pub mod CallOnLaws
pub mod CheckLaws
pub mod AskedLaws
pub mod TidyLaws
pub mod SoundnessLaws
