pub mod ListLaws
pub mod NameLaws
pub mod RowLaws
pub mod Setting
pub mod Making
pub mod KindLaws
pub mod ModelLaws
