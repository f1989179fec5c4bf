pub mod RowLaws
pub mod TableLaws
pub mod MadeLaws
pub mod EditLaws
pub mod ShelfLaws
