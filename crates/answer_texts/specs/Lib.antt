pub mod Columns
pub mod LayerTexts
pub mod MadeTexts
pub mod PlanRanges
pub mod PlanTexts
pub mod ReportTexts
pub mod WholeLayers
pub mod Rooms
