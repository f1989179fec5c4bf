pub mod Asking
pub mod Matching
pub mod Lines
pub mod AtExamples
