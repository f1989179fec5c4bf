pub mod WalkTurns
pub mod ListLaws
pub mod EntryLaws
pub mod MarkLaws
pub mod SearchLaws
pub mod LeadLaws
pub mod MetLaws
