pub mod Giving
pub mod Numbers
pub mod Texts
