pub mod Draws
pub mod MadeModels
pub mod Tries
