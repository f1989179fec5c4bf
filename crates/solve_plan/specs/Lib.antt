pub mod Marks
pub mod Reports
pub mod Surplus
pub mod PlanSteps
pub mod Plans
