pub mod Fields
pub mod Fractions
pub mod Lanes
pub mod Modulus
pub mod Rows
