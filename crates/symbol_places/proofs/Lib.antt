pub mod PlaceSteps
pub mod RowSteps
pub mod PlaceNumbers
