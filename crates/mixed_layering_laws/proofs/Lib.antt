pub mod Members
pub mod LayeredKernels
pub mod ChangedValues
pub mod ScaledRows
pub mod LayeringRank
pub mod LayeringExists
mod ExampleFacts
