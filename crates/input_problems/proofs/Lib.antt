pub mod FlowsheetPlaces
pub mod LinesWithin
pub mod ReadingSteps
pub mod ProblemLaws
