pub mod Places
pub mod PlacesBefore
