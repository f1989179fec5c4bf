pub mod MatchingLaws
pub mod MateLaws
pub mod MatchEdits
