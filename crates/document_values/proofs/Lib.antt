pub mod Chains
pub mod Data
pub mod Declaring
pub mod Failing
pub mod Inversion
pub mod NamesRead
