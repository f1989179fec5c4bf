pub mod Edits
pub mod Laws
