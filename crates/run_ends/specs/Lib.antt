pub mod Numbers
pub mod Statuses
pub mod Notes
pub mod Ways
pub mod Answers
pub mod Reading
pub mod Runs
