pub mod PairLaws
pub mod MinimiserLaws
pub mod StructuralRankLaws
pub mod PartLaws
