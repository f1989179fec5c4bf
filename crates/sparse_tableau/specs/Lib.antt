pub mod Listings
pub mod Sparse
pub mod Joins
pub mod Leaves
