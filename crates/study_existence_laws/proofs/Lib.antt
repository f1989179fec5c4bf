pub mod RegularSystems
pub mod LastSingular
pub mod SolvedProblems
pub mod ListedPlaces
pub mod Valued
pub mod ConflictListed
pub mod Clashing
pub mod Repaired
