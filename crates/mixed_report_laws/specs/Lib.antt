pub mod RemovalLaws
pub mod MinimiserTests
pub mod PartTests
pub mod Examples
