pub mod Searches
pub mod Laws
pub mod Outside
