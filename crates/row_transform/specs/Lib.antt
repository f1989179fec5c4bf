pub mod Bases
pub mod Tableaus
pub mod Entries
pub mod Dense
pub mod Edits
