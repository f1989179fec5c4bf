pub mod Walks
pub mod Closed
pub mod Blocks
pub mod Orders
pub mod Rules
pub mod Tables
pub mod Examples
pub mod Laws
