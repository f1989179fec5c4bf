pub mod Circuits
pub mod Devices
pub mod EquationNames
pub mod ReaderStates
pub mod Rules
