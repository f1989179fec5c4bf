pub mod Ranges
pub mod Texts
pub mod Said
pub mod Puttings
pub mod Rooms
