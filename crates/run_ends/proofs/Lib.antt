pub mod Taking
pub mod Noting
pub mod StatusFacts
pub mod Unread
pub mod Delivered
pub mod Wholes
pub mod Finished
pub mod Runs
