pub mod Listed
pub mod Parts
pub mod Tests
pub mod Laws
