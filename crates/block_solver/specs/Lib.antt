pub mod Rows
pub mod Tables
pub mod Blocks
pub mod Numbers
pub mod Solving
pub mod Outcomes
pub mod SolvingLaws
