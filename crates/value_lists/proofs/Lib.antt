pub mod FixedSets
pub mod Numbers
pub mod Steps
pub mod Columns
pub mod Rows
pub mod Tests
