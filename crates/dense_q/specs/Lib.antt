pub use Rattle.linear_algebra.specs.Columns
pub use Rattle.linear_algebra.specs.Products
pub use Rattle.linear_algebra.specs.RowOperations
pub mod Rows
pub mod Storage
pub mod Tables
pub mod Rho
