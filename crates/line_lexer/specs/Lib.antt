pub mod Lines
pub mod Tokens
pub mod Cuts
pub mod Names
pub mod Numbers
