pub mod ByKind
pub mod OneStatus
pub mod Pumped
pub mod Unread
pub mod NamesByKind
