pub mod Numbering
pub mod Chains
pub mod Withins
pub mod Lists
