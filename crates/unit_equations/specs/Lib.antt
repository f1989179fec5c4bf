pub mod Adding
pub mod Growing
pub mod Kinds
pub mod Parts
