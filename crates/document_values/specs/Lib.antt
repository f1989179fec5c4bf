pub mod Answers
pub mod Chains
pub mod Values
pub mod Words
