pub mod Values
pub mod Solvings
pub mod Conflicts
