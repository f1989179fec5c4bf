pub mod Costs
pub mod Rules
