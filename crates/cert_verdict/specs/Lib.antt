pub mod Verdicts
pub mod Judging
pub mod Accepted
pub mod Statuses
