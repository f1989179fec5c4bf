pub mod Feeding
pub mod Keeping
pub mod Models
pub mod Reached
pub mod Sheets
pub mod Units
