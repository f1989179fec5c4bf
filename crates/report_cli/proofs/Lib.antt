pub mod FieldFacts
pub mod Outputs
pub mod ReportFacts
pub mod Ends
pub mod Runs
pub mod RunWords
pub mod Making
pub mod Certified
