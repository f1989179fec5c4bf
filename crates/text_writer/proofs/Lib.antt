pub mod DigitSteps
pub mod Giving
pub mod Putting
