pub mod Removals
pub mod Beside
pub mod Members
pub mod Rests
pub mod Wider
pub mod WiderLayers
pub mod FewSteps
