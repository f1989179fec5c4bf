pub mod Ranges
pub mod Ends
pub mod Solved
pub mod Priced
pub mod Refusing
pub mod Lengths
pub mod RepairLengths
