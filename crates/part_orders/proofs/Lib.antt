pub mod ItemLaws
pub mod ChainLaws
pub mod CoverLaws
pub mod HeadLaws
