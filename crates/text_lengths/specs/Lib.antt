pub mod Rooms
pub mod Counts
