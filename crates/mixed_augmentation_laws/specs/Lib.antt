pub mod Moves
pub mod Laws
pub mod Sealed
pub mod SealedLaws
