pub mod Marking
pub mod Leading
pub mod FormArcs
pub mod Forms
