pub mod LayeredValues
pub mod LayeringLaws
