pub mod StudyInputs
pub mod StudyOutputs
pub mod Problems
