pub mod Chains
pub mod Askings
pub mod Faults
