pub mod ItemLaws
pub mod PartNumbers
pub mod PrintedArcs
pub mod RuleLaws
pub mod Views
