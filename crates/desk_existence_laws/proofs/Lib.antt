pub mod ToldModels
pub mod PlacedModels
pub mod KeptNames
pub mod AddedModels
pub mod EditedModels
pub mod Replies
pub mod TextAnswers
