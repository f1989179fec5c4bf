pub mod Restrictions
pub mod Laws
