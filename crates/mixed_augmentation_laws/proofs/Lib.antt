pub mod Moves
pub mod Routes
pub mod Counting
pub mod Sealed
