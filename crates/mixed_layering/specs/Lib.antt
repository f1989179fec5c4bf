pub mod Members
pub mod Columns
pub mod Places
pub mod Layers
