pub mod Forms
pub mod Layerings
pub mod Telling
pub mod Making
pub mod Verdicts
