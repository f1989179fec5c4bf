pub mod SearchLaws
pub mod ShortestWalks
pub mod OutsideLaws
