pub mod Gathering
pub mod WideRows
pub mod Units
pub mod Standing
pub mod Placing
pub mod Matching
pub mod Checking
pub mod Answers
