pub mod RightForms
pub mod Listed
pub mod Placed
