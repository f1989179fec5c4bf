pub mod Falling
pub mod Few
pub mod GrowingLevels
pub mod KeptLists
pub mod ProblemCosts
pub mod ShownRanks
