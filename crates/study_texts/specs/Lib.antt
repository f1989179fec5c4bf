pub mod SolutionTexts
pub mod ConflictTexts
pub mod ValueTexts
pub mod Rooms
