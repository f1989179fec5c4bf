pub mod Lists
pub mod Pairs
pub mod Places
pub mod Choosers
pub mod Choices
pub mod Prices
pub mod Told
pub mod ConflictLists
