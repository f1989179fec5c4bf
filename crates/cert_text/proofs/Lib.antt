pub mod PairLists
pub mod Pieces
pub mod PrintedRules
pub mod RightFacts
pub mod RuleFacts
pub mod Smallness
