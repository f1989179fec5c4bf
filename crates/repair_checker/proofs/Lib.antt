pub mod CostLists
pub mod Cheapest
pub mod Levels
