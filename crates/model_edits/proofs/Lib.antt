pub mod AddingSteps
pub mod ItemMarks
pub mod OrderLaws
pub mod SeenLaws
pub mod SettingSteps
