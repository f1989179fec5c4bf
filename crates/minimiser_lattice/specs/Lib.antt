pub mod Paths
pub mod Components
pub mod Standings
pub mod Ready
pub mod Listings
pub mod Covers
pub mod Parts
pub mod Views
