pub mod Columns
pub mod Kernels
pub mod Products
pub mod Bases
pub mod RowOperations
pub mod Parts
