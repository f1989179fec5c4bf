pub mod PairLaws
pub mod MoveLaws
