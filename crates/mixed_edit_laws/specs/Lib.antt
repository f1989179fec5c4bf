pub mod Removed
pub mod RemovalLaws
pub mod Rests
pub mod RestLaws
pub mod Changes
pub mod ChangeLaws
