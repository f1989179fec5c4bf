pub mod Putting
pub mod Systems
pub mod Terms
