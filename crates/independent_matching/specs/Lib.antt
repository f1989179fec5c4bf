pub mod Sides
pub mod Turns
pub mod Changes
pub mod Edits
pub mod Engines
pub mod Marks
