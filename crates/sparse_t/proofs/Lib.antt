pub mod ListLaws
pub mod ColumnLaws
pub mod IncidenceLaws
pub mod StoredLaws
pub mod ShelfLaws
pub mod NumberLaws
pub mod EditLaws
