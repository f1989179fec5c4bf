pub mod Commands
pub mod Edits
pub mod Marks
pub mod Orders
