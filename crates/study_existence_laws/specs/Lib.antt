pub mod HasValues
pub mod Solved
pub mod HasConflicts
pub mod HasRepairs
