pub mod Lists
pub mod Incidences
pub mod Columns
pub mod Shelves
pub mod Edits
