pub mod CountLaws
pub mod ItemLaws
pub mod LookLaws
pub mod NoneLaws
pub mod SweepLaws
