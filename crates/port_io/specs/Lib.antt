pub mod Causes
pub mod Bytes
pub mod Memory
pub mod Pumping
pub mod Asking
