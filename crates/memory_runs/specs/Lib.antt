pub mod Opened
pub mod Pieces
