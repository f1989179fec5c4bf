pub mod LineRules
pub mod Answers
pub mod Readings
