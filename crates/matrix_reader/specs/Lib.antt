pub mod Items
pub mod EquationLists
pub mod Rules
pub mod Models
pub mod ReaderStates
pub mod Feeding
