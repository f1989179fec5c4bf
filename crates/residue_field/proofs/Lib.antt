pub mod FieldLaws
pub mod FractionLaws
pub mod LaneLaws
pub mod RowLaws
