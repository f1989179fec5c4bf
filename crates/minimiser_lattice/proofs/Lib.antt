pub mod PathLaws
pub mod CloseLaws
pub mod ReadyLaws
pub mod ListingLaws
pub mod CoverLaws
pub mod TailLaws
pub mod LatticeLaws
