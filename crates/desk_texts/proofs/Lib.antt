pub mod ReplyPieces
pub mod PartsLaws
pub mod LineLaws
pub mod Talks
