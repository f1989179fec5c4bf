pub mod Fixing
pub mod Listing
