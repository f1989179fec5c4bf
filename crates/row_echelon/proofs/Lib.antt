pub mod EntrySums
pub mod StoredRows
pub mod EchelonLaws
pub mod DividedRows
pub mod LeadLaws
