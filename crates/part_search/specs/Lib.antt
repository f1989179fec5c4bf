pub mod Neighbours
pub mod Markings
pub mod Steps
pub mod Searched
