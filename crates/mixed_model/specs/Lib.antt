pub mod Entries
pub mod Faults
pub mod Names
pub mod Rows
pub mod Models
pub mod Layers
