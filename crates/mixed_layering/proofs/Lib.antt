pub mod ColumnLaws
pub mod EntryLaws
pub mod LayerLaws
pub mod MemberLaws
pub mod PlaceLaws
pub mod RowSteps
pub mod SplitLaws
