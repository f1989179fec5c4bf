pub mod RankLaws
pub mod RowOperationLaws
pub mod BaseLaws
pub mod BlockLaws
pub mod EntryLaws
pub mod RemovalLaws
pub mod Examples
