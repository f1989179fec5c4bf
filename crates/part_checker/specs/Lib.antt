pub mod Items
pub mod Told
