pub mod SearchLaws
pub mod LookupLaws
pub mod GroupLaws
pub mod SoundnessLaws
pub mod QueryLaws
pub mod StoreLaws
pub mod SoundStepLaws
