pub mod ArcLists
pub mod MarkLaws
pub mod FormLaws
pub mod Gathered
