pub mod Answer
pub mod Drawings
