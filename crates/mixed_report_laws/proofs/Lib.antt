pub mod PartEntries
pub mod EmptiedParts
pub mod EmptiedColumns
pub mod EmptiedSymbolRows
pub mod EmptiedConstantRows
pub mod SwappedRows
pub mod SplitEquations
pub mod Removals
pub mod Tests
pub mod Tails
mod ExampleRanks
mod ExampleParts
