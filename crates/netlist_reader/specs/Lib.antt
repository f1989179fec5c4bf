pub mod Examples
pub mod Feeding
pub mod Models
pub mod Naming
pub mod Numbers
pub mod Owners
pub mod Putting
pub mod Terms
