pub mod Sets
pub mod Ranges
pub mod Sums
pub mod Residues
pub mod Laws
